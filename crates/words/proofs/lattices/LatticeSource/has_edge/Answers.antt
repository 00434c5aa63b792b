use Rattle.std.proofs.Common.{rules}
use Rattle.words.proofs.EdgeLists.{has_within}
use Rattle.words.proofs.lattices.LatticeSource.has_edge.Goals as goal

pub returns : goal.returns
returns c =
    has_within c.args.self.now c.args.from c.args.word c.args.to c.edge_within.result c.is_some_and.result c.edge_within.ensures (search rules)
