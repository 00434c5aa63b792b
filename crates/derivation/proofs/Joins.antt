-- Foot positions, joined over gaps.
use Rattle.std.proofs.Common.{◌≡◌, ℕ, min, [], ◌∷◌, ◌++◌, sym, refl, ap, ◌∙◌, append-nil, arith, eq-eqb, ne_eqb}
use native.Mathlib.Decide.{ℕ_discrete}
use Rattle.steps.specs.Items.{joined, missing}
use Rattle.derivation.specs.Spans.{Gaps, starts_of, ends_of}

pub joined_missing : (a : ℕ) → joined a missing ≡ a
joined_missing a = pick (ℕ_discrete a 255)
  where
    pick : Dec (a ≡ 255) → joined a missing ≡ a
    pick (yes e) = rw (eq-eqb a 255 e) (sym e)
    pick (no n) = rw (ne_eqb a 255 n)

joined_min : (a b : ℕ) → (a ≡ 255 → ⊥) → (b ≡ 255 → ⊥) → joined a b ≡ min a b
joined_min a b n k = rw (ne_eqb a 255 n, ne_eqb b 255 k)

joined_left : (a b : ℕ) → a ≡ 255 → joined a b ≡ b
joined_left a b e = rw (eq-eqb a 255 e)

joined_right : (a b : ℕ) → b ≡ 255 → joined a b ≡ a
joined_right a b e = ap (λ (x : ℕ). joined a x) e ∙ joined_missing a

pub joined_comm : (a b : ℕ) → joined a b ≡ joined b a
joined_comm a b = pick (ℕ_discrete a 255) (ℕ_discrete b 255)
  where
    pick : Dec (a ≡ 255) → Dec (b ≡ 255) → joined a b ≡ joined b a
    pick (yes e) d = joined_left a b e ∙ sym (joined_right b a e)
    pick (no n) (yes k) = joined_right a b k ∙ sym (joined_left b a k)
    pick (no n) (no k) = joined_min a b n k ∙ (let e : min a b ≡ min b a = omega arith in e) ∙ sym (joined_min b a k n)

pub joined_assoc : (a b d : ℕ) → joined (joined a b) d ≡ joined a (joined b d)
joined_assoc a b d = pick (ℕ_discrete a 255) (ℕ_discrete b 255) (ℕ_discrete d 255)
  where
    pick : Dec (a ≡ 255) → Dec (b ≡ 255) → Dec (d ≡ 255) → joined (joined a b) d ≡ joined a (joined b d)
    pick (yes e) y z = ap (λ (x : ℕ). joined x d) (joined_left a b e) ∙ sym (joined_left a (joined b d) e)
    pick (no n) (yes e) z = ap (λ (x : ℕ). joined x d) (joined_right a b e) ∙ ap (λ (x : ℕ). joined a x) (sym (joined_left b d e))
    pick (no n) (no k) (yes e) = joined_right (joined a b) d e ∙ ap (λ (x : ℕ). joined a x) (sym (joined_right b d e))
    pick (no n) (no k) (no l) =
        let n1 : min a b ≡ 255 → ⊥ = λ e. omega arith in
        let n2 : min b d ≡ 255 → ⊥ = λ e. omega arith in
        let e : min (min a b) d ≡ min a (min b d) = omega arith in
        ap (λ (x : ℕ). joined x d) (joined_min a b n k) ∙ joined_min (min a b) d n1 l ∙ e ∙ sym (joined_min a (min b d) n n2)
        ∙ ap (λ (x : ℕ). joined a x) (sym (joined_min b d k l))

pub starts_++ : (gs hs : Gaps) → starts_of (gs ++ hs) ≡ joined (starts_of gs) (starts_of hs)
starts_++ [] hs = refl
starts_++ (x ∷ gs) hs = ap (λ (r : ℕ). joined x.0 r) (starts_++ gs hs) ∙ sym (joined_assoc x.0 (starts_of gs) (starts_of hs))

pub ends_++ : (gs hs : Gaps) → ends_of (gs ++ hs) ≡ joined (ends_of gs) (ends_of hs)
ends_++ [] hs = refl
ends_++ (x ∷ gs) hs = ap (λ (r : ℕ). joined x.1 r) (ends_++ gs hs) ∙ sym (joined_assoc x.1 (ends_of gs) (ends_of hs))

pub starts_nil : (hs : Gaps) {p : ℕ} → starts_of hs ≡ p → starts_of (hs ++ []) ≡ p
starts_nil hs e = ap starts_of (append-nil hs) ∙ e

pub ends_nil : (hs : Gaps) {p : ℕ} → ends_of hs ≡ p → ends_of (hs ++ []) ≡ p
ends_nil hs e = ap ends_of (append-nil hs) ∙ e
