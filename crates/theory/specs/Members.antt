-- Membership in a list.
use Rattle.std.specs.Prelude.{List, ◌∷◌}

pub data Among (A : Type 0) : A → List A → Type 0 where
  here : {x : A} {xs : List A} → Among A x (x ∷ xs)
  there : {x y : A} {xs : List A} → Among A x xs → Among A x (y ∷ xs)
