use Rattle.std.proofs.Common.{rules, ap, ◌∙◌}
use Rattle.distinct.specs.Lists.{records}
use Rattle.words.specs.Edges.{in_bounds, all_inside}
use Rattle.words.proofs.EdgeLists.{within_some, inside_after}
use Rattle.words.proofs.lattice.Lattice.add_edge.Goals as goal

-- the edge that is offered keeps the bounds
pub invariant_of-self-clause-inside : goal.invariant_of-self-clause-inside
invariant_of-self-clause-inside c =
    let l = c.args.self.now in
    let p = within_some l.last c.args.from c.args.word c.args.to c.in_ok-edge.edge (search rules) in
    ap (λ es. all_inside l.last es) c.add.ensures.holds
    ∙ inside_after l.last (records l.edges) c.in_ok-edge.edge _ l.inside (ap (λ x. in_bounds l.last x.from x.to) p.1 ∙ p.0)
