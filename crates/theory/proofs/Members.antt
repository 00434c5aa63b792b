-- Members of lists.
use Rattle.std.proofs.Common.{◌≡◌, ℕ, zero, suc, ◌<◌, Bool, true, false, ◌⊎◌, List, [], ◌∷◌, ◌++◌, map, sym, refl, subst, inl, inr, arith}
use native.Mathlib.Decide.{ℕ_discrete}
use Rattle.std.specs.Option.{option_to_list}
use Rattle.steps.specs.declared.item.Item.{Item}
use Rattle.steps.specs.Orders.{upto}
use Rattle.steps.specs.Conclusions.{when}
use Rattle.theory.specs.Members.{Among, here, there}

pub among_left : {A : Type 0} {x : A} {xs : List A} (ys : List A) → Among A x xs → Among A x (xs ++ ys)
among_left ys here = here
among_left ys (there h) = there (among_left ys h)

pub among_right : {A : Type 0} {x : A} (xs : List A) {ys : List A} → Among A x ys → Among A x (xs ++ ys)
among_right [] h = h
among_right (y ∷ xs) h = there (among_right xs h)

pub among_++ : {A : Type 0} {x : A} (xs ys : List A) → Among A x (xs ++ ys) → Among A x xs ⊎ Among A x ys
among_++ [] ys h = inr h
among_++ (y ∷ xs) ys here = inl here
among_++ (y ∷ xs) ys (there h) = elim (among_++ xs ys h) [ inl a ↦ inl (there a) | inr b ↦ inr b ]

pub among_none : {A : Type 0} {x : A} → Among A x [] → ⊥
among_none h = elim h [ ]

pub among_one : {A : Type 0} {x y : A} → Among A x (y ∷ []) → x ≡ y
among_one here = refl
among_one (there h) = elim h [ ]

pub among_two : {A : Type 0} {x y z : A} → Among A x (y ∷ z ∷ []) → (x ≡ y) ⊎ (x ≡ z)
among_two here = inl refl
among_two (there h) = inr (among_one h)

pub among_three : {A : Type 0} {x y z w : A} → Among A x (y ∷ z ∷ w ∷ []) → (x ≡ y) ⊎ ((x ≡ z) ⊎ (x ≡ w))
among_three here = inl refl
among_three (there h) = inr (among_two h)

pub from_map : {A B : Type 0} (f : A → B) {y : B} (xs : List A) → Among B y (map f xs) → (x : A) × Among A x xs × (y ≡ f x)
from_map f [] h = elim h [ ]
from_map f (x ∷ xs) here = (x, here, refl)
from_map f (x ∷ xs) (there h) = let r = from_map f xs h in (r.0, there r.1, r.2)

pub to_map : {A B : Type 0} (f : A → B) {x : A} {xs : List A} → Among A x xs → Among B (f x) (map f xs)
to_map f here = here
to_map f (there h) = there (to_map f h)

-- one item under a test
pub from_when : (b : Bool) {x y : Item} → Among Item y (option_to_list (when b x)) → (b ≡ true) × (y ≡ x)
from_when true h = (refl, among_one h)
from_when false h = elim h [ ]

pub to_when : {b : Bool} (x : Item) → b ≡ true → Among Item x (option_to_list (when b x))
to_when {b} x e = subst (λ (v : Bool). Among Item x (option_to_list (when v x))) (sym e) here

-- at each number below n
pub from_upto : (n : ℕ) (f : ℕ → List Item) {y : Item} → Among Item y (upto n f) → (k : ℕ) × (k < n) × Among Item y (f k)
from_upto zero f h = elim h [ ]
from_upto (suc n) f {y} h = pick (among_++ (upto n f) (f n) h) (λ u. from_upto n f u)
  where
    pick : Among Item y (upto n f) ⊎ Among Item y (f n) → (Among Item y (upto n f) → (k : ℕ) × (k < n) × Among Item y (f k))
        → (k : ℕ) × (k < suc n) × Among Item y (f k)
    pick (inl u) g = let r = g u in (r.0, (let l = r.1 in omega arith), r.2)
    pick (inr u) g = (n, omega arith, u)

pub to_upto : (n : ℕ) (f : ℕ → List Item) {y : Item} (k : ℕ) → k < n → Among Item y (f k) → Among Item y (upto n f)
to_upto zero f k l h = absurd (omega arith)
to_upto (suc n) f {y} k l h = pick (ℕ_discrete k n) (λ u. to_upto n f k u h)
  where
    pick : Dec (k ≡ n) → (k < n → Among Item y (upto n f)) → Among Item y (upto n f ++ f n)
    pick (yes e) g = among_right (upto n f) (subst (λ (v : ℕ). Among Item y (f v)) e h)
    pick (no e) g = among_left (f n) (g (omega arith))
