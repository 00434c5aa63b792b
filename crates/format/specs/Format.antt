-- What bytes are a grammar, in the format's own words.
use Rattle.std.specs.Prelude.{◌≡◌, ℕ, suc, ◌+◌, ◌<◌, ◌≤◌, List, [], ◌∷◌, ◌++◌, length, get_or, ◌≢◌, slice_index_or, slice_set}
use Rattle.std.specs.List.{AllByRecursion}
use Rattle.format.specs.declared.node.Kind.{Kind}
use Rattle.format.specs.declared.node.Kind.TheVariants.{Inner, Word, Empty, Foot}
use Rattle.format.specs.declared.node.Form.{Form}
use Rattle.format.specs.declared.node.Form.TheVariants.{Initial, Auxiliary}
use Rattle.format.specs.declared.node.Obligation.{Obligation}
use Rattle.format.specs.declared.node.Obligation.TheVariants.{Optional, Obligatory}
use Rattle.format.specs.declared.node.Constraint.{Constraint}
use Rattle.format.specs.declared.node.Node.{Node}
use Rattle.format.specs.declared.node.Tree.{Tree}
use Rattle.format.specs.Trees.{Row, none, node, size, Entry, entry, flatten, lay}
use Rattle.format.specs.Parts.{Contents, no_node, pair, label_of_kind, feet, no_list, mark, constrained, slot}

-- Elementary trees ------------------------------------------------------------------------------------------------------

-- An elementary tree: an inner root with its label, over a row of children.
pub record Elementary : Type 0 where
  pub form : Form
  pub label : ℕ
  pub children : Row

abbrev pub as_row : Elementary → Row
as_row t = node (Inner t.label) t.children none

-- the tree's nodes in the order of the file: each is followed by its children's subtrees
abbrev pub preorder : Elementary → List Entry
preorder t = flatten (as_row t)

-- Labels and words run from 1 to their number.
abbrev pub Named : ℕ → ℕ → Kind → Type 0
Named labels words (Inner l) = (0 < l) × (l ≤ labels)
Named labels words (Word w) = (0 < w) × (w ≤ words)
Named labels words Empty = Unit {0}
Named labels words (Foot l) = (0 < l) × (l ≤ labels)

-- An inner node has 1 to 8 children, a leaf none.
abbrev pub Arity : Kind → ℕ → Type 0
Arity (Inner l) n = (0 < n) × (n ≤ 8)
Arity (Word w) n = n ≡ 0
Arity Empty n = n ≡ 0
Arity (Foot l) n = n ≡ 0

-- An initial tree has no foot, an auxiliary tree exactly one, with its root's label.
abbrev pub Footed : Form → ℕ → List ℕ → Type 0
Footed Initial l fs = fs ≡ []
Footed Auxiliary l fs = fs ≡ l ∷ []

pub record TreeRules (labels words : ℕ) (t : Elementary) : Type 0 where
  pub named : AllByRecursion (λ e. Named labels words e.kind) (preorder t)
  pub counted : AllByRecursion (λ e. Arity e.kind e.children) (preorder t)
  pub footed : Footed t.form t.label (feet (preorder t))

-- Adjoining constraints -------------------------------------------------------------------------------------------------

-- An adjoining constraint: of which node of which tree, whether the node may stay as it is, and the trees that it takes.
pub record Adjoining : Type 0 where
  pub tree : ℕ
  pub node : ℕ
  pub obligation : Obligation
  pub takes : List ℕ

-- A constraint is given to an inner node or a foot.
abbrev pub Adjoinable : Kind → Type 0
Adjoinable (Inner l) = Unit {0}
Adjoinable (Word w) = ⊥
Adjoinable Empty = ⊥
Adjoinable (Foot l) = Unit {0}

-- what stands at a number that no tree has, or no node
abbrev pub no_elementary : Elementary
no_elementary = record { form = Initial; label = 0; children = none }

abbrev pub no_entry : Entry
no_entry = entry (Inner 0) 0

abbrev pub tree_at : List Elementary → ℕ → Elementary
tree_at ts t = slice_index_or ts t no_elementary

-- what node n of tree t is
abbrev pub kind_at : List Elementary → ℕ → ℕ → Kind
kind_at ts t n = (get_or (preorder (tree_at ts t)) n no_entry).kind

-- Rising numbers, from `least` on, of auxiliary trees with the label.
abbrev pub Takes : List Elementary → ℕ → ℕ → List ℕ → Type 0
Takes ts l least [] = Unit {0}
Takes ts l least (b ∷ bs) = (least ≤ b) × (b < length ts) × ((tree_at ts b).form ≡ Auxiliary) × ((tree_at ts b).label ≡ l) × Takes ts l (suc b) bs

-- A node that has to be adjoined to takes some tree.
abbrev pub CanMeet : Obligation → List ℕ → Type 0
CanMeet Optional bs = Unit {0}
CanMeet Obligatory bs = 0 < length bs

pub record AdjoiningRules (ts : List Elementary) (a : Adjoining) : Type 0 where
  pub tree_there : a.tree < length ts
  pub node_there : a.node < length (preorder (tree_at ts a.tree))
  pub adjoinable : Adjoinable (kind_at ts a.tree a.node)
  pub can_meet : CanMeet a.obligation a.takes
  pub takes : Takes ts (label_of_kind (kind_at ts a.tree a.node)) 0 a.takes

-- No two constraints are of one node.
abbrev pub Apart : Adjoining → Adjoining → Type 0
Apart a b = a.tree ≡ b.tree → a.node ≢ b.node

abbrev pub Once : List Adjoining → Type 0
Once [] = Unit {0}
Once (a ∷ more) = AllByRecursion (Apart a) more × Once more

-- Grammars --------------------------------------------------------------------------------------------------------------

-- A grammar as a file describes it.
pub record Description : Type 0 where
  pub labels : ℕ
  pub words : ℕ
  pub trees : List Elementary
  pub adjoinings : List Adjoining

-- how many nodes the trees have
abbrev pub sizes : List Elementary → ℕ
sizes [] = 0
sizes (t ∷ ts) = size (as_row t) + sizes ts

pub record Rules (d : Description) : Type 0 where
  pub some_labels : 0 < d.labels
  pub some_words : 0 < d.words
  pub trees : AllByRecursion (TreeRules d.labels d.words) d.trees
  pub few_trees : length d.trees ≤ 64
  pub few_nodes : sizes d.trees ≤ 256
  pub initial : (t : ℕ) × (t < length d.trees) × ((tree_at d.trees t).form ≡ Initial)
  pub adjoinings : AllByRecursion (AdjoiningRules d.trees) d.adjoinings
  pub once : Once d.adjoinings

-- Bytes -----------------------------------------------------------------------------------------------------------------

-- A field is a tag byte, two length bytes, and its body; `later` follows it.
abbrev pub IsField : ℕ → List ℕ → List ℕ → List ℕ → Type 0
IsField tag body bytes later = (high : ℕ) × (low : ℕ) × (pair high low ≡ length body) × (bytes ≡ tag ∷ (high ∷ (low ∷ (body ++ later))))

-- A node is four bytes: its kind, two of its name, and its child count.
abbrev pub code_of : Kind → ℕ
code_of (Inner l) = 0
code_of (Word w) = 1
code_of Empty = 2
code_of (Foot l) = 3

abbrev pub name_of : Kind → ℕ
name_of (Inner l) = l
name_of (Word w) = w
name_of Empty = 0
name_of (Foot l) = l

abbrev pub Spells : List Entry → List ℕ → Type 0
Spells [] bytes = bytes ≡ []
Spells (e ∷ es) bytes =
    (high : ℕ) × (low : ℕ) × (more : List ℕ) × (pair high low ≡ name_of e.kind) × (bytes ≡ code_of e.kind ∷ (high ∷ (low ∷ (e.children ∷ more)))) × Spells es more

-- The header field, tag 1: the number of labels in one byte and the number of words in two.
abbrev pub HeaderField : ℕ → ℕ → List ℕ → List ℕ → Type 0
HeaderField labels words bytes later = (high : ℕ) × (low : ℕ) × (pair high low ≡ words) × IsField 1 (labels ∷ (high ∷ (low ∷ []))) bytes later

abbrev pub tree_tag : Form → ℕ
tree_tag Initial = 2
tree_tag Auxiliary = 3

-- The tree fields, tags 2 and 3: the nodes of each in order.
abbrev pub TreeFields : List Elementary → List ℕ → List ℕ → Type 0
TreeFields [] bytes later = bytes ≡ later
TreeFields (t ∷ ts) bytes later =
    (body : List ℕ) × (rest : List ℕ) × IsField (tree_tag t.form) body bytes rest × Spells (preorder t) body × TreeFields ts rest later

-- An adjoining field's third byte: 1 where the node may stay as it is.
abbrev pub obligation_byte : Obligation → ℕ
obligation_byte Optional = 1
obligation_byte Obligatory = 0

-- The adjoining fields, tag 4: tree, node, obligation, and the trees that may adjoin.
abbrev pub AdjoiningFields : List Adjoining → List ℕ → Type 0
AdjoiningFields [] bytes = bytes ≡ []
AdjoiningFields (a ∷ more) bytes =
    (rest : List ℕ) × IsField 4 (a.tree ∷ (a.node ∷ (obligation_byte a.obligation ∷ a.takes))) bytes rest × AdjoiningFields more rest

-- The header, then the trees, then the adjoining fields, and nothing else.
abbrev pub Spelled : Description → List ℕ → Type 0
Spelled d bytes =
    (trees : List ℕ) × (adjoinings : List ℕ) × HeaderField d.labels d.words bytes trees × TreeFields d.trees trees adjoinings × AdjoiningFields d.adjoinings adjoinings

-- Tables ----------------------------------------------------------------------------------------------------------------

-- The trees, and the nodes of all trees one behind the other, from node number i of the table on.
abbrev pub trees_from : ℕ → List Elementary → List Tree
trees_from i [] = []
trees_from i (t ∷ ts) = record { form = t.form; label = t.label; start = i; size = size (as_row t) } ∷ trees_from (i + size (as_row t)) ts

abbrev pub laid_out : List Elementary → List Node
laid_out [] = []
laid_out (t ∷ ts) = lay 0 (as_row t) ++ laid_out ts

abbrev pub constraint_by : Adjoining → Constraint
constraint_by a = record { obligation = a.obligation; listed = mark a.takes no_list }

-- An adjoining sets the constraint of its node and touches no other.
abbrev pub constrain : List Tree → Adjoining → List Node → List Node
constrain ts a ns = slice_set ns (slot ts a.tree a.node) (constrained (slice_index_or ns (slot ts a.tree a.node) no_node) (constraint_by a))

abbrev pub constrain_all : List Tree → List Adjoining → List Node → List Node
constrain_all ts [] ns = ns
constrain_all ts (a ∷ more) ns = constrain_all ts more (constrain ts a ns)

-- what a grammar holds that was read from its description
abbrev pub contents_of : Description → Contents
contents_of d = record {
  labels = d.labels;
  words = d.words;
  trees = trees_from 0 d.trees;
  nodes = constrain_all (trees_from 0 d.trees) d.adjoinings (laid_out d.trees);
}

-- The contents are those of a description that keeps every rule of the format.
abbrev pub Described : Contents → Type 0
Described c = (d : Description) × Rules d × (contents_of d ≡ c)

-- The bytes are the grammar with these contents.
pub record IsGrammar (bytes : List ℕ) (c : Contents) : Type 0 where
  pub few : length bytes ≤ 16384
  pub description : Description
  pub rules : Rules description
  pub spelled : Spelled description bytes
  pub holds : contents_of description ≡ c
