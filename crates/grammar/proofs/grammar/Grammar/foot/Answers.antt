use Rattle.std.proofs.Common.{◌≡◌, length, ap, sym, ◌∙◌, arith, rules}
use Rattle.std.proofs.lemmas.List.Quantifiers.{position-Some}
use Rattle.format.specs.Keeps.{is_foot}
use Rattle.format.specs.Parts.{no_node}
use Rattle.format.specs.Questions.{foot_from, foot_of_tree}
use Rattle.grammar.specs.Grammars.{contents_in}
use Rattle.grammar.proofs.Questions.{foot_by_position, few_nodes}
use Rattle.grammar.proofs.grammar.Grammar.foot.Goals as goal

pub map-requires : goal.map-requires
map-requires c x is _ _ =
    let g = c.args.self.now in
    let a = position-Some (λ v. is_foot v.kind) c.nodes.result.now x no_node (sym c.first_foot.ensures ∙ is) in
    let b = few_nodes (contents_in g) g.few c.args.tree in
    omega (arith, ap length c.nodes.ensures, a.0)

pub returns : goal.returns
returns c =
    let e : c.first_foot.result ≡ foot_of_tree (contents_in c.args.self.now) c.args.tree
    = c.first_foot.ensures ∙ (foot_by_position c.nodes.result.now ∙ ap (foot_from 0) c.nodes.ensures) in
    search rules
