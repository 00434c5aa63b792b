-- What comes from each item, each pair and each triple of items up to a number.
use Rattle.std.proofs.Common.{◌≡◌, ℕ, zero, suc, ◌+◌, ◌<◌, ◌≤◌, ◌⊎◌, List, [], ◌∷◌, length, take, sym, subst, inl, inr, add-zero, zero-add, arith}
use native.Mathlib.Decide.{ℕ_discrete}
use Rattle.std.specs.Option.{option_to_list}
use Rattle.steps.specs.declared.item.Item.{Item}
use Rattle.steps.specs.Items.{item_at}
use Rattle.steps.specs.Orders.{each, PairStep, TripleStep, pairs, block_at, triples}
use Rattle.theory.specs.Members.{Among, here, there}
use Rattle.theory.proofs.Members.{among_left, among_right, among_++}

from_numbered : (f : ℕ → Item → List Item) (n : ℕ) (t : ℕ) (xs : List Item) {y : Item} → Among Item y (each f n (take t xs))
    → (k : ℕ) × (k < t) × Among Item y (f (n + k) (item_at xs k))
from_numbered f n zero xs h = elim h [ ]
from_numbered f n (suc t) [] h = elim h [ ]
from_numbered f n (suc t) (x ∷ xs) {y} h = pick (among_++ (f n x) (each f (n + 1) (take t xs)) h) (λ u. from_numbered f (n + 1) t xs u)
  where
    pick : Among Item y (f n x) ⊎ Among Item y (each f (n + 1) (take t xs))
        → (Among Item y (each f (n + 1) (take t xs)) → (k : ℕ) × (k < t) × Among Item y (f (n + 1 + k) (item_at xs k)))
        → (k : ℕ) × (k < suc t) × Among Item y (f (n + k) (item_at (x ∷ xs) k))
    pick (inl u) g = (0, omega arith, subst (λ (v : ℕ). Among Item y (f v x)) (sym (add-zero n)) u)
    pick (inr u) g =
        let r = g u in
        let e : n + 1 + r.0 ≡ n + suc r.0 = omega arith in
        (suc r.0, (let l = r.1 in omega arith), subst (λ (v : ℕ). Among Item y (f v (item_at xs r.0))) e r.2)

to_numbered : (f : ℕ → Item → List Item) (n : ℕ) (t : ℕ) (xs : List Item) {y : Item} (k : ℕ) → k < t → t ≤ length xs
    → Among Item y (f (n + k) (item_at xs k)) → Among Item y (each f n (take t xs))
to_numbered f n zero xs k l m h = absurd (omega arith)
to_numbered f n (suc t) [] k l m h = absurd (omega arith)
to_numbered f n (suc t) (x ∷ xs) {y} zero l m h = among_left (each f (n + 1) (take t xs)) (subst (λ (v : ℕ). Among Item y (f v x)) (add-zero n) h)
to_numbered f n (suc t) (x ∷ xs) {y} (suc k) l m h =
    let e : n + suc k ≡ n + 1 + k = omega arith in
    among_right (f n x) (to_numbered f (n + 1) t xs k (omega arith) (omega arith) (subst (λ (v : ℕ). Among Item y (f v (item_at xs k))) e h))

-- from each item with a number below t
pub from_each : (f : ℕ → Item → List Item) (t : ℕ) (its : List Item) {y : Item} → Among Item y (each f 0 (take t its))
    → (k : ℕ) × (k < t) × Among Item y (f k (item_at its k))
from_each f t its {y} h =
    let r = from_numbered f 0 t its h in
    (r.0, r.1, subst (λ (v : ℕ). Among Item y (f v (item_at its r.0))) (zero-add r.0) r.2)

pub to_each : (f : ℕ → Item → List Item) (t : ℕ) (its : List Item) {y : Item} (k : ℕ) → k < t → t ≤ length its
    → Among Item y (f k (item_at its k)) → Among Item y (each f 0 (take t its))
to_each f t its {y} k l m h = to_numbered f 0 t its k l m (subst (λ (v : ℕ). Among Item y (f v (item_at its k))) (sym (zero-add k)) h)

-- a step with two premises, at two numbers
abbrev pub pair_at : PairStep → List Item → ℕ → ℕ → List Item
pair_at f its a b = option_to_list (f a (item_at its a) b (item_at its b))

abbrev pub triple_at : TripleStep → List Item → ℕ → ℕ → ℕ → List Item
triple_at f its a b d = option_to_list (f a (item_at its a) b (item_at its b) d (item_at its d))

pub record PairAmong (f : PairStep) (its : List Item) (t : ℕ) (y : Item) : Type 0 where
  pub a : ℕ
  pub b : ℕ
  pub a_upto : a < t + 1
  pub b_upto : b < t + 1
  pub one : Among ℕ t (a ∷ b ∷ [])
  pub inside : Among Item y (pair_at f its a b)

pub from_pairs : (f : PairStep) (its : List Item) (t : ℕ) {y : Item} → Among Item y (pairs f its t) → PairAmong f its t y
from_pairs f its t {y} h = pick (among_++ (each (λ a x. option_to_list (f a x t (item_at its t))) 0 (take t its)) (each (λ b z. option_to_list (f t (item_at its t) b z)) 0 (take (t + 1) its)) h)
  where
    pick : Among Item y (each (λ a x. option_to_list (f a x t (item_at its t))) 0 (take t its)) ⊎ Among Item y (each (λ b z. option_to_list (f t (item_at its t) b z)) 0 (take (t + 1) its))
        → PairAmong f its t y
    pick (inl u) =
        let r = from_each (λ a x. option_to_list (f a x t (item_at its t))) t its u in
        let l = r.1 in
        record { a = r.0; b = t; a_upto = omega arith; b_upto = omega arith; one = there here; inside = r.2 }
    pick (inr u) =
        let r = from_each (λ b z. option_to_list (f t (item_at its t) b z)) (t + 1) its u in
        record { a = t; b = r.0; a_upto = omega arith; b_upto = r.1; one = here; inside = r.2 }

-- t is the second premise, or the first
pub to_pairs : (f : PairStep) (its : List Item) (t : ℕ) {y : Item} (a b : ℕ) → t < length its → a < t + 1 → b < t + 1 → (t ≡ a) ⊎ (t ≡ b)
    → Among Item y (pair_at f its a b) → Among Item y (pairs f its t)
to_pairs f its t {y} a b m la lb w h = pick (ℕ_discrete t a)
  where
    first : t ≡ a → Among Item y (pairs f its t)
    first e =
        among_right (each (λ c x. option_to_list (f c x t (item_at its t))) 0 (take t its))
        (to_each (λ d z. option_to_list (f t (item_at its t) d z)) (t + 1) its b lb (omega arith) (subst (λ (v : ℕ). Among Item y (pair_at f its v b)) (sym e) h))

    second : (t ≡ a → ⊥) → (t ≡ a) ⊎ (t ≡ b) → Among Item y (pairs f its t)
    second n (inl e) = absurd (n e)
    second n (inr e) =
        among_left (each (λ d z. option_to_list (f t (item_at its t) d z)) 0 (take (t + 1) its))
        (to_each (λ c x. option_to_list (f c x t (item_at its t))) t its a (below n) (omega arith) (subst (λ (v : ℕ). Among Item y (pair_at f its a v)) (sym e) h))
      where
        below : (t ≡ a → ⊥) → a < t
        below n = omega arith

    pick : Dec (t ≡ a) → Among Item y (pairs f its t)
    pick (yes e) = first e
    pick (no n) = second n w

pub record TripleAmong (f : TripleStep) (its : List Item) (t : ℕ) (y : Item) : Type 0 where
  pub a : ℕ
  pub b : ℕ
  pub d : ℕ
  pub a_upto : a < t + 1
  pub b_upto : b < t + 1
  pub d_upto : d < t + 1
  pub one : Among ℕ t (a ∷ b ∷ d ∷ [])
  pub inside : Among Item y (triple_at f its a b d)

pub from_triples : (f : TripleStep) (its : List Item) (t : ℕ) {y : Item} → Among Item y (triples f its t) → TripleAmong f its t y
from_triples f its t {y} h = pick (among_++ (each (λ a x. pairs (f a x) its t) 0 (take t its)) (each (block_at f its t) 0 (take (t + 1) its)) h)
  where
    pick : Among Item y (each (λ a x. pairs (f a x) its t) 0 (take t its)) ⊎ Among Item y (each (block_at f its t) 0 (take (t + 1) its)) → TripleAmong f its t y
    pick (inl u) =
        let r = from_each (λ a x. pairs (f a x) its t) t its u in
        let l = r.1 in
        let s = from_pairs (f r.0 (item_at its r.0)) its t r.2 in
        record { a = r.0; b = s.a; d = s.b; a_upto = omega arith; b_upto = s.a_upto; d_upto = s.b_upto; one = there s.one; inside = s.inside }
    pick (inr u) =
        let r = from_each (block_at f its t) (t + 1) its u in
        let s = from_each (λ d z. option_to_list (f t (item_at its t) r.0 (item_at its r.0) d z)) (t + 1) its r.2 in
        record { a = t; b = r.0; d = s.0; a_upto = omega arith; b_upto = r.1; d_upto = s.1; one = here; inside = s.2 }

pub to_triples : (f : TripleStep) (its : List Item) (t : ℕ) {y : Item} (a b d : ℕ) → t < length its → a < t + 1 → b < t + 1 → d < t + 1
    → (t ≡ a) ⊎ ((t ≡ b) ⊎ (t ≡ d)) → Among Item y (triple_at f its a b d) → Among Item y (triples f its t)
to_triples f its t {y} a b d m la lb ld w h = pick (ℕ_discrete t a)
  where
    first : t ≡ a → Among Item y (triples f its t)
    first e =
        among_right (each (λ c x. pairs (f c x) its t) 0 (take t its))
        (to_each (block_at f its t) (t + 1) its b lb (omega arith)
        (to_each (λ k z. option_to_list (f t (item_at its t) b (item_at its b) k z)) (t + 1) its d ld (omega arith)
        (subst (λ (v : ℕ). Among Item y (triple_at f its v b d)) (sym e) h)))

    second : (t ≡ a → ⊥) → (t ≡ a) ⊎ ((t ≡ b) ⊎ (t ≡ d)) → Among Item y (triples f its t)
    second n (inl e) = absurd (n e)
    second n (inr e) =
        among_left (each (block_at f its t) 0 (take (t + 1) its))
        (to_each (λ c x. pairs (f c x) its t) t its a (below n) (omega arith) (to_pairs (f a (item_at its a)) its t b d m lb ld e h))
      where
        below : (t ≡ a → ⊥) → a < t
        below n = omega arith

    pick : Dec (t ≡ a) → Among Item y (triples f its t)
    pick (yes e) = first e
    pick (no n) = second n w
