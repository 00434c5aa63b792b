use Rattle.std.proofs.Common.{◌≡◌, ℕ, List, ◌++◌, codes, drop}
use Rattle.std.specs.Fmt.{HasWritten, IsPlainFormatter}
use Rattle.format.specs.Texts.{obligation_name, listed_text}
use Rattle.format.proofs.node.ConstraintDisplay.fmt.Given as goal

abbrev pub invariant-loop-tree : goal.invariant-loop-tree
invariant-loop-tree g l =
    IsPlainFormatter l.fn.f → (done : List ℕ) × HasWritten g.W.Write.write_str_gives l.fn.f done l.f
    × (done ++ listed_text l.tree-counter (drop l.tree-counter l.fn.self.listed) ≡ obligation_name l.fn.self.obligation ++ (codes ":" ++ listed_text 0 l.fn.self.listed))
