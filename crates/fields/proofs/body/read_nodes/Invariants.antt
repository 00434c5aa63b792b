use Rattle.std.proofs.Common.{length, vec_items}
use Rattle.fields.proofs.Bodies.{ReadSoFar}
use Rattle.fields.proofs.body.read_nodes.Given as goal

abbrev pub invariant-loop-rest : goal.invariant-loop-rest
invariant-loop-rest l = ReadSoFar l.header.labels l.header.words l.body (vec_items l.nodes) l.rest

abbrev pub decreases-loop-rest : goal.decreases-loop-rest
decreases-loop-rest l = length l.rest
