use Rattle.std.proofs.Common.{◌≡◌, ℕ, ◌||◌, rules, tests, List, [], ◌∷◌, refl, ap, ◌∙◌}
use Rattle.std.specs.List.{list_any}
use Rattle.std.proofs.lemmas.Iterator.{YieldsList-from_slice}
use Rattle.std.proofs.lemmas.Iterator.Search.{any_from_yields_List}
use Rattle.format.specs.Parts.{Contents}
use Rattle.grammar.specs.Grammars.{contents_in}
use Rattle.steps.specs.declared.item.Item.{Item}
use Rattle.steps.specs.Verdicts.{says_yes, yes_in}
use Rattle.chart.proofs.telling.any_yes.Goals as goal

any_is : (c : Contents) (n : ℕ) (xs : List Item) → list_any (says_yes c n) xs ≡ yes_in c n xs
any_is c n [] = refl
any_is c n (x ∷ xs) = ap (λ b. says_yes c n x || b) (any_is c n xs)

pub returns : goal.returns
returns c =
    let test = says_yes (contents_in c.args.grammar.now) c.args.last in
    any_from_yields_List test _ _ _ c.any.ensures.ran (YieldsList-from_slice c.args.items.now cc) (λ x b q k. search (rules, tests))
    ∙ any_is (contents_in c.args.grammar.now) c.args.last c.args.items.now
