use Rattle.std.proofs.Common.{Bool, ◌&&◌, List, refl, ◌∙◌, rules, tests}
use Rattle.std.specs.List.{list_all}
use Rattle.std.proofs.lemmas.Iterator.{YieldsList-from_slice}
use Rattle.std.proofs.lemmas.Iterator.Search.{all_from_yields_List}
use Rattle.std.proofs.lemmas.List.Recursion.{same_from_clauses}
use Rattle.format.specs.declared.node.Node.{Node}
use Rattle.format.specs.Judge.{arity, arities}
use Rattle.format.specs.Ends.{bares}
use Rattle.fields.proofs.body.arities.Goals as goal

pub returns : goal.returns
returns c =
    let ns = c.args.nodes.now in
    let right : Node → Bool = λ v. arity v.kind v.children in
    all_from_yields_List right _ _ _ c.all.ensures.ran (YieldsList-from_slice ns cc) (λ x b q k. search (rules, tests))
    ∙ same_from_clauses (list_all right) (λ (l : List Node). arities (bares l)) (λ v b. right v && b) refl (λ _ _. refl) (λ _ _. refl) ns
