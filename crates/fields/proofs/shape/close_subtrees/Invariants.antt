use Rattle.format.specs.Ends.{bares}
use Rattle.fields.proofs.Closing.{Closing}
use Rattle.fields.proofs.shape.close_subtrees.Given as goal

abbrev pub invariant-loop-i : goal.invariant-loop-i
invariant-loop-i l = Closing (bares l.initial.nodes) l.nodes l.i
