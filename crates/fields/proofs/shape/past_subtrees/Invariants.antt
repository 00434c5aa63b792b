use Rattle.std.proofs.Common.{◌≡◌, ◌-◌}
use Rattle.format.specs.Ends.{past}
use Rattle.fields.proofs.shape.past_subtrees.Given as goal

abbrev pub invariant-loop-child : goal.invariant-loop-child
invariant-loop-child l = past l.nodes (l.count - l._child) l.at ≡ past l.nodes l.count l.from
