-- What holds of each gap.
use Rattle.std.proofs.Common.{◌≡◌, ℕ, suc, [], ◌∷◌, ◌++◌, length, arith}
use Rattle.derivation.specs.Spans.{Gaps}

pub data All (P : ℕ → ℕ → Type 0) : Gaps → Type 0 where
  a_nil : All P []
  a_cons : {k l : ℕ} {gs : Gaps} → P k l → All P gs → All P ((k, l) ∷ gs)

pub all_left : {P : ℕ → ℕ → Type 0} (gs hs : Gaps) → All P (gs ++ hs) → All P gs
all_left [] hs a = a_nil
all_left (x ∷ gs) hs (a_cons p a) = a_cons p (all_left gs hs a)

pub all_right : {P : ℕ → ℕ → Type 0} (gs : Gaps) {hs : Gaps} → All P (gs ++ hs) → All P hs
all_right [] a = a
all_right (x ∷ gs) (a_cons p a) = all_right gs a

pub all_++ : {P : ℕ → ℕ → Type 0} {gs hs : Gaps} → All P gs → All P hs → All P (gs ++ hs)
all_++ a_nil b = b
all_++ (a_cons p a) b = a_cons p (all_++ a b)

-- of no gap, anything
pub no_gaps : (P : ℕ → ℕ → Type 0) (gs : Gaps) → length gs ≡ 0 → All P gs
no_gaps P [] e = a_nil
no_gaps P (x ∷ gs) e = elim (let b : ⊥ = omega arith in b) [ ]

-- of one gap, the only one
pub only_gap : (Q : Gaps → Type 0) (gs : Gaps) → length gs ≡ 1 → Q gs → (p : ℕ) × (q : ℕ) × Q ((p, q) ∷ [])
only_gap Q [] e s = absurd (none e)
  where
    none : ◌≡◌ {A = ℕ} 0 1 → ⊥
    none z = omega arith
only_gap Q (x ∷ []) e s = (x.0, x.1, s)
only_gap Q (x ∷ (y ∷ gs)) e s = absurd (big e)
  where
    big : suc (suc (length gs)) ≡ 1 → ⊥
    big z = omega arith

pub one_gap : (Q : Gaps → Type 0) (P : ℕ → ℕ → Type 0) (gs : Gaps) → length gs ≡ 1 → Q gs → All P gs
    → (p : ℕ) × (q : ℕ) × Q ((p, q) ∷ []) × P p q
one_gap Q P [] e s al = absurd (none e)
  where
    none : ◌≡◌ {A = ℕ} 0 1 → ⊥
    none z = omega arith
one_gap Q P (x ∷ []) e s (a_cons h al) = (x.0, x.1, s, h)
one_gap Q P (x ∷ (y ∷ gs)) e s al = absurd (big e)
  where
    big : suc (suc (length gs)) ≡ 1 → ⊥
    big z = omega arith
