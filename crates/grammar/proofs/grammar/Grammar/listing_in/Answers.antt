use Rattle.std.proofs.Common.{◌≡◌, ℕ, ◌-◌, List, length, position, take, drop, take_all, length-drop, ap, ◌∙◌, arith, None, Some}
use Rattle.format.specs.declared.node.Node.{Node}
use Rattle.format.specs.Keeps.{lists, nodes_in}
use Rattle.grammar.specs.Grammars.{contents_in}
use Rattle.grammar.proofs.Listings.{listing_by_position}
use Rattle.grammar.proofs.grammar.Grammar.listing_in.Goals as goal

-- what stands from n on is all that is left
left : (vs ws xs : List Node) (n m : ℕ) → xs ≡ take (length vs - n) (drop n vs) → vs ≡ ws → n ≡ m → xs ≡ drop m ws
left vs ws xs n m e v k = e ∙ (take_all (length vs - n) (drop n vs) (omega (arith, length-drop n vs)) ∙ (ap (drop n) v ∙ ap (λ (i : ℕ). drop i ws) k))

pub returns-in_err-past : goal.returns-in_err-past
returns-in_err-past c =
    let b = c.args.auxiliary in
    let ws = nodes_in (contents_in c.args.self.now) c.args.tree in
    let rest = left c.nodes.result.now ws c.in_ok-behind.behind.now c.from.result c.args.from c.in_ok-behind.ensures.lookup.0.2 c.nodes.ensures c.from.ensures in
    let e : None ≡ position (λ v. lists v.constraint b) (drop c.args.from ws) = c.in_err-past.ensures ∙ ap (position (λ v. lists v.constraint b)) rest in
    c.from_residual-in_err-past.ensures ∙ listing_by_position b c.args.tree c.args.from (drop c.args.from ws) None e

pub returns : goal.returns
returns c =
    let b = c.args.auxiliary in
    let ws = nodes_in (contents_in c.args.self.now) c.args.tree in
    let rest = left c.nodes.result.now ws c.in_ok-behind.behind.now c.from.result c.args.from c.in_ok-behind.ensures.lookup.0.2 c.nodes.ensures c.from.ensures in
    let e : Some c.in_ok-past.past ≡ position (λ v. lists v.constraint b) (drop c.args.from ws) = c.in_ok-past.ensures ∙ ap (position (λ v. lists v.constraint b)) rest in
    listing_by_position b c.args.tree c.args.from (drop c.args.from ws) (Some c.in_ok-past.past) e
