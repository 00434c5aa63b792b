-- What every grammar keeps, by its table: the rules of the format as the layers above ask for them.
use Rattle.std.specs.Prelude.{◌≡◌, ℕ, suc, ◌+◌, ◌<◌, ◌≤◌, Bool, true, false, ◌||◌, List, [], ◌∷◌, length, is_some, Some, None, Option, slice_index_or}
use Rattle.format.specs.declared.node.Kind.{Kind}
use Rattle.format.specs.declared.node.Kind.TheVariants.{Inner, Word, Empty, Foot}
use Rattle.format.specs.declared.node.Form.{Form}
use Rattle.format.specs.declared.node.Form.TheVariants.{Initial, Auxiliary}
use Rattle.format.specs.declared.node.Obligation.{Obligation}
use Rattle.format.specs.declared.node.Obligation.TheVariants.{Optional, Obligatory}
use Rattle.format.specs.declared.node.Constraint.{Constraint}
use Rattle.format.specs.declared.node.Node.{Node}
use Rattle.format.specs.declared.node.Tree.{Tree}
use Rattle.format.specs.Parts.{Contents, no_tree, no_node, label_of_kind, nodes_at}
use Rattle.format.specs.Judge.{is_auxiliary, some_initial, adjoinable}
use Rattle.format.specs.Format.{name_of}
use Rattle.format.specs.Layout.{pass}

-- The parts of a table ----------------------------------------------------------------------------------------------------

abbrev pub tree_in : Contents → ℕ → Tree
tree_in c t = slice_index_or c.trees t no_tree

-- the nodes of tree t, in the order of the file
abbrev pub nodes_in : Contents → ℕ → List Node
nodes_in c t = nodes_at c.trees c.nodes t

abbrev pub node_in : Contents → ℕ → ℕ → Node
node_in c t n = slice_index_or (nodes_in c t) n no_node

-- Questions on a node -----------------------------------------------------------------------------------------------------

abbrev pub is_inner : Kind → Bool
is_inner (Inner l) = true
is_inner (Word w) = false
is_inner Empty = false
is_inner (Foot l) = false

abbrev pub is_foot : Kind → Bool
is_foot (Inner l) = false
is_foot (Word w) = false
is_foot Empty = false
is_foot (Foot l) = true

abbrev pub is_optional : Obligation → Bool
is_optional Optional = true
is_optional Obligatory = false

-- A node may stay as it is, unless its constraint says that it has to be adjoined to.
abbrev pub may_stay : Option Constraint → Bool
may_stay None = true
may_stay (Some k) = is_optional k.obligation

-- the trees that may adjoin, as a set by tree number
abbrev pub taken_trees : Option Constraint → List Bool
taken_trees None = []
taken_trees (Some k) = k.listed

-- A node lists a tree that may adjoin to it; without a constraint it lists none.
abbrev pub lists : Option Constraint → ℕ → Bool
lists o b = slice_index_or (taken_trees o) b false

abbrev pub any : List Bool → Bool
any [] = false
any (b ∷ bs) = b || any bs

-- how many feet there are among nodes
abbrev pub foot_of : Kind → ℕ
foot_of (Inner l) = 0
foot_of (Word w) = 0
foot_of Empty = 0
foot_of (Foot l) = 1

abbrev pub foot_count : List Node → ℕ
foot_count [] = 0
foot_count (v ∷ vs) = foot_of v.kind + foot_count vs

-- The rules ---------------------------------------------------------------------------------------------------------------

-- at most 64 trees and 256 nodes
abbrev pub Few : Contents → Type 0
Few c = (length c.trees ≤ 64) × (length c.nodes ≤ 256)

-- at least one initial tree
abbrev pub SomeTreeInitial : Contents → Type 0
SomeTreeInitial c = some_initial c.trees ≡ true

-- Every tree has its nodes in the table, and at least one.
abbrev pub TreesWhole : Contents → Type 0
TreesWhole c = (t : ℕ) → t < length c.trees → (0 < (tree_in c t).size) × ((tree_in c t).start + (tree_in c t).size ≤ length c.nodes)

-- The root is an inner node with the tree's label, and the whole tree is its subtree.
abbrev pub Roots : Contents → Type 0
Roots c = (t : ℕ) → t < length c.trees
    → (is_inner (node_in c t 0).kind ≡ true) × (label_of_kind (node_in c t 0).kind ≡ (tree_in c t).label) × ((node_in c t 0).end ≡ (tree_in c t).size)

-- A subtree ends behind its root and within the tree.
abbrev pub Ends : Contents → Type 0
Ends c = (t n : ℕ) → n < length (nodes_in c t) → (n < (node_in c t n).end) × ((node_in c t n).end ≤ length (nodes_in c t))

-- A subtree has whole subtrees in it.
abbrev pub Subtrees : Contents → Type 0
Subtrees c = (t n k : ℕ) → (n < length (nodes_in c t)) × (n < k) × (k < (node_in c t n).end) → (node_in c t k).end ≤ (node_in c t n).end

-- Children lie one behind the other, each with its whole subtree, from right behind their parent to the end of its subtree.
abbrev pub Children : Contents → Type 0
Children c = (t n : ℕ) → n < length (nodes_in c t) → pass (nodes_in c t) (node_in c t n).children (suc n) ≡ (node_in c t n).end

abbrev pub ChildWithin : Contents → Type 0
ChildWithin c = (t n k : ℕ) → (n < length (nodes_in c t)) × (k < (node_in c t n).children) → pass (nodes_in c t) k (suc n) < (node_in c t n).end

-- An inner node has 1 to 8 children, a leaf none.
abbrev pub InnerArity : Contents → Type 0
InnerArity c = (t n : ℕ) → (n < length (nodes_in c t)) × (is_inner (node_in c t n).kind ≡ true) → (0 < (node_in c t n).children) × ((node_in c t n).children ≤ 8)

abbrev pub LeafArity : Contents → Type 0
LeafArity c = (t n : ℕ) → (n < length (nodes_in c t)) × (is_inner (node_in c t n).kind ≡ false) → (node_in c t n).children ≡ 0

-- Labels and words run from 1 to their number.
abbrev pub least_name : Kind → ℕ
least_name (Inner l) = 1
least_name (Word w) = 1
least_name Empty = 0
least_name (Foot l) = 1

abbrev pub most_name : ℕ → ℕ → Kind → ℕ
most_name labels words (Inner l) = labels
most_name labels words (Word w) = words
most_name labels words Empty = 0
most_name labels words (Foot l) = labels

abbrev pub Names : Contents → Type 0
Names c = (t n : ℕ) → n < length (nodes_in c t)
    → (least_name (node_in c t n).kind ≤ name_of (node_in c t n).kind) × (name_of (node_in c t n).kind ≤ most_name c.labels c.words (node_in c t n).kind)

-- An initial tree has no foot, an auxiliary tree exactly one, with the tree's label.
abbrev pub feet_due : Form → ℕ
feet_due Initial = 0
feet_due Auxiliary = 1

abbrev pub Feet : Contents → Type 0
Feet c = (t : ℕ) → t < length c.trees → foot_count (nodes_in c t) ≡ feet_due (tree_in c t).form

abbrev pub FootLabels : Contents → Type 0
FootLabels c = (t n : ℕ) → (n < length (nodes_in c t)) × (is_foot (node_in c t n).kind ≡ true) → label_of_kind (node_in c t n).kind ≡ (tree_in c t).label

-- A constraint is of an inner node or a foot.
abbrev pub Constraints : Contents → Type 0
Constraints c = (t n : ℕ) → is_some (node_in c t n).constraint ≡ true → adjoinable (node_in c t n).kind ≡ true

-- a tree that node n of tree t lists
abbrev pub Listed : Contents → ℕ → ℕ → Type 0
Listed c t n = (b : ℕ) × (lists (node_in c t n).constraint b ≡ true)

-- A listed tree is an auxiliary tree with the node's label.
abbrev pub ListedThere : Contents → Type 0
ListedThere c = (t n : ℕ) (l : Listed c t n) → l.0 < length c.trees

abbrev pub ListedAuxiliary : Contents → Type 0
ListedAuxiliary c = (t n : ℕ) (l : Listed c t n) → is_auxiliary (tree_in c l.0).form ≡ true

abbrev pub ListedLabels : Contents → Type 0
ListedLabels c = (t n : ℕ) (l : Listed c t n) → (tree_in c l.0).label ≡ label_of_kind (node_in c t n).kind

-- A node that has to be adjoined to lists a tree.
abbrev pub Obligations : Contents → Type 0
Obligations c = (t n : ℕ) → may_stay (node_in c t n).constraint ≡ false → any (taken_trees (node_in c t n).constraint) ≡ true

pub record Keeps (c : Contents) : Type 0 where
  pub few : Few c
  pub initial : SomeTreeInitial c
  pub whole : TreesWhole c
  pub roots : Roots c
  pub ends : Ends c
  pub subtrees : Subtrees c
  pub children : Children c
  pub child_within : ChildWithin c
  pub inner_arity : InnerArity c
  pub leaf_arity : LeafArity c
  pub names : Names c
  pub feet : Feet c
  pub foot_labels : FootLabels c
  pub constraints : Constraints c
  pub listed_there : ListedThere c
  pub listed_auxiliary : ListedAuxiliary c
  pub listed_labels : ListedLabels c
  pub obligations : Obligations c
