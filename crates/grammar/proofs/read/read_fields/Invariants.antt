use Rattle.std.proofs.Common.{length}
use Rattle.grammar.specs.Drafts.{state}
use Rattle.format.proofs.Walks.{Walked}
use Rattle.grammar.proofs.read.read_fields.Given as goal

abbrev pub invariant-loop-rest : goal.invariant-loop-rest
invariant-loop-rest l = Walked l.bytes (state l.draft) l.rest

abbrev pub decreases-loop-rest : goal.decreases-loop-rest
decreases-loop-rest l = length l.rest
