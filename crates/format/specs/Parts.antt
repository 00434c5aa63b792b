-- The parts of a grammar as the definitions speak of them.
use Rattle.std.specs.Prelude.{ℕ, ◌+◌, ◌*◌, Bool, true, false, List, [], ◌∷◌, take, drop, replicate, Some, None, slice_index_or, slice_set}
use Rattle.format.specs.declared.node.Kind.{Kind}
use Rattle.format.specs.declared.node.Kind.TheVariants.{Inner, Word, Empty, Foot}
use Rattle.format.specs.declared.node.Node.{Node}
use Rattle.format.specs.declared.node.Tree.{Tree}
use Rattle.format.specs.declared.node.Form.TheVariants.{Initial}
use Rattle.format.specs.declared.node.Constraint.{Constraint}
use Rattle.format.specs.Trees.{Entry}

-- What a grammar holds: the numbers of its labels and words, its trees, and the nodes of all trees one behind the other.
pub record Contents : Type 0 where
  pub labels : ℕ
  pub words : ℕ
  pub trees : List Tree
  pub nodes : List Node

-- what stands at a number that no tree has, or no node
abbrev pub no_tree : Tree
no_tree = record { form = Initial; label = 0; start = 0; size = 0 }

abbrev pub no_node : Node
no_node = record { kind = Inner 0; children = 0; end = 0; constraint = None }

-- two bytes, the high one first
abbrev pub pair : ℕ → ℕ → ℕ
pair high low = 256 * high + low

-- the label of an inner node or a foot
abbrev pub label_of_kind : Kind → ℕ
label_of_kind (Inner l) = l
label_of_kind (Word w) = 0
label_of_kind Empty = 0
label_of_kind (Foot l) = l

-- the labels of the feet, in order
abbrev pub feet_before : Kind → List ℕ → List ℕ
feet_before (Inner l) fs = fs
feet_before (Word w) fs = fs
feet_before Empty fs = fs
feet_before (Foot l) fs = l ∷ fs

abbrev pub feet : List Entry → List ℕ
feet [] = []
feet (e ∷ es) = feet_before e.kind (feet es)

-- no tree at all, as a set by tree number
abbrev pub no_list : List Bool
no_list = replicate 64 false

-- the numbers of a list as a set, beside what is in the set already
abbrev pub mark : List ℕ → List Bool → List Bool
mark [] set-so-far = set-so-far
mark (b ∷ bs) set-so-far = mark bs (slice_set set-so-far b true)

-- the node with a constraint, and otherwise as it was
abbrev pub constrained : Node → Constraint → Node
constrained v c = record { kind = v.kind; children = v.children; end = v.end; constraint = Some c }

-- where node n of tree t stands in the table
abbrev pub slot : List Tree → ℕ → ℕ → ℕ
slot ts t n = (slice_index_or ts t no_tree).start + n

-- the nodes of tree t, in the order of the file
abbrev pub nodes_at : List Tree → List Node → ℕ → List Node
nodes_at ts ns t = take (slice_index_or ts t no_tree).size (drop (slice_index_or ts t no_tree).start ns)
