-- What an answer of `add` says of the held records.
use Rattle.std.proofs.Common.{◌≡◌, ℕ, Bool, true, false, cond, ◌||◌, ltb, List, length, is_some, Some, None, Ok, Option, refl, ◌∙◌, arith}
use Rattle.distinct.specs.declared.Added.TheVariants.{Held, New}
use Rattle.distinct.specs.Adding.{first_same, no_room, answer_at, answer_in}
use Rattle.distinct.specs.Runs.{has}
use Rattle.distinct.proofs.Classes.{has_first, has_through}

-- a record that is answered as held has the same as what is held
held_says : (p : Option ℕ) (n cap k : ℕ) → Ok (Held k) ≡ answer_at p n cap → is_some p ≡ true
held_says (Some j) n cap k e = refl
held_says None n cap k e = by (ltb n cap) e
  where
    by : (b : Bool) → Ok (Held k) ≡ cond b (Ok (New n)) no_room → false ≡ true
    by true e = let z : ◌≡◌ {A = ℕ} 0 1 = cc in absurd (omega arith)
    by false e = let z : ◌≡◌ {A = ℕ} 0 1 = cc in absurd (omega arith)

module _ {R : Type 0} (s : R → R → Bool) (tr : (x y z : R) → s x y ≡ true → s y z ≡ true → s x z ≡ true) where
  -- what is the same as a record that was held was held
  pub held_has : (xs : List R) (x : R) (cap k : ℕ) → Ok (Held k) ≡ answer_in s cap xs x → (y : R) → has s xs y ≡ (has s xs y || s x y)
  held_has xs x cap k e y = absorb (has s xs y) (s x y) (λ q. has_through s tr xs x y q
      (has_first s 0 xs x ∙ held_says (first_same s 0 xs x) (length xs) cap k e))
    where
      absorb : (p q : Bool) → (q ≡ true → p ≡ true) → p ≡ (p || q)
      absorb true q f = refl
      absorb false true f = f refl
      absorb false false f = refl
