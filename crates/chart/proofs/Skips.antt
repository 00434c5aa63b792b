-- Steps that conclude nothing, and single conclusions by a test.
use Rattle.std.proofs.Common.{◌≡◌, ℕ, ◌+◌, Bool, true, false, List, [], ◌∷◌, ◌++◌, None, Option, refl, ap, ◌∙◌}
use Rattle.std.specs.Option.{option_to_list}
use Rattle.steps.specs.declared.item.Item.{Item}
use Rattle.steps.specs.Orders.{each}
use Rattle.steps.specs.Conclusions.{when}

pub each_none : (f : ℕ → Item → Option Item) (k : ℕ) (xs : List Item) → ((a : ℕ) (x : Item) → f a x ≡ None) → each (λ a x. option_to_list (f a x)) k xs ≡ []
each_none f k [] h = refl
each_none f k (x ∷ xs) h = ap (λ (o : Option Item). option_to_list o ++ each (λ a x. option_to_list (f a x)) (k + 1) xs) (h k x) ∙ each_none f (k + 1) xs h

pub not_drawn : (b : Bool) (x : Item) → false ≡ b → [] ≡ option_to_list (when b x)
not_drawn b x e = ap (λ (v : Bool). option_to_list (when v x)) e

pub is_drawn : (b : Bool) (x y : Item) → true ≡ b → y ≡ x → y ∷ [] ≡ option_to_list (when b x)
is_drawn b x y e q = ap (λ (z : Item). z ∷ []) q ∙ ap (λ (v : Bool). option_to_list (when v x)) e

pub each_empty : (f : ℕ → Item → List Item) (k : ℕ) (xs : List Item) → ((a : ℕ) (x : Item) → f a x ≡ []) → each f k xs ≡ []
each_empty f k [] h = refl
each_empty f k (x ∷ xs) h = ap (λ (l : List Item). l ++ each f (k + 1) xs) (h k x) ∙ each_empty f (k + 1) xs h
