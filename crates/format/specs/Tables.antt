-- The trees of a table have their nodes in it.
use Rattle.std.specs.Prelude.{ℕ, ◌+◌, ◌<◌, ◌≤◌, List, length, slice_index_or}
use Rattle.format.specs.declared.node.Node.{Node}
use Rattle.format.specs.declared.node.Tree.{Tree}
use Rattle.format.specs.Parts.{no_tree}

abbrev pub Fit : List Tree → List Node → Type 0
Fit ts ns = (t : ℕ) → t < length ts → (slice_index_or ts t no_tree).start + (slice_index_or ts t no_tree).size ≤ length ns
