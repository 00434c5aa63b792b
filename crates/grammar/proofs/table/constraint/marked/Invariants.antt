use Rattle.std.proofs.Common.{◌≡◌, length, drop}
use Rattle.grammar.proofs.table.constraint.marked.Given as goal
use Rattle.format.specs.Parts.{mark, no_list}

abbrev pub invariant-loop-tree : goal.invariant-loop-tree
invariant-loop-tree l = (length l.set ≡ 64) × (mark (drop l.tree-index l.list) l.set ≡ mark l.list no_list)
