use Rattle.std.proofs.Common.{◌≡◌, Bool, true, false, ◌||◌, List, [], ◌∷◌, refl, ap, sym, ◌∙◌}
use Rattle.std.specs.List.{list_any}
use Rattle.format.specs.Keeps.{taken_trees, any}
use Rattle.walk.proofs.node.lists_any.Goals as goal

any_is : (p : Bool → Bool) → p true ≡ true → p false ≡ false → (bs : List Bool) → list_any p bs ≡ any bs
any_is p t f [] = refl
any_is p t f (true ∷ bs) = ap (λ v. v || list_any p bs) t
any_is p t f (false ∷ bs) = ap (λ v. v || list_any p bs) f ∙ any_is p t f bs

pub returns-in-Some : goal.returns-in-Some
returns-in-Some c = c.contains.ensures.value ∙ (any_is _ refl refl c.in-Some.constraint.listed ∙ ap (λ o. any (taken_trees o)) (sym c.in-Some.is))
