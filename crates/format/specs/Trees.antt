-- Ordered trees, and how a file has them: each node with the number of its children, followed by the children's subtrees in order.
use Rattle.std.specs.Prelude.{ℕ, zero, suc, ◌+◌, List, [], ◌∷◌, ◌++◌, Some, None, Option}
use Rattle.format.specs.declared.node.Kind.{Kind}
use Rattle.format.specs.declared.node.Node.{Node}

-- A row of ordered trees: none, or a first node over the row of its children, and then the row of its later siblings.
pub data Row : Type 0 where
  none : Row
  node : Kind → Row → Row → Row

-- how many trees stand in a row
abbrev pub trees_in : Row → ℕ
trees_in none = 0
trees_in (node k kids rest) = suc (trees_in rest)

-- how many nodes its trees have
abbrev pub size : Row → ℕ
size none = 0
size (node k kids rest) = suc (size kids + size rest)

-- two rows beside each other
infixr 20 ◌⊕◌
abbrev pub ◌⊕◌ : Row → Row → Row
none ⊕ s = s
(node k kids rest) ⊕ s = node k kids (rest ⊕ s)

-- a node as the file has it
pub record Entry : Type 0 where
  pub kind : Kind
  pub children : ℕ

abbrev pub entry : Kind → ℕ → Entry
entry k n = record { kind = k; children = n }

-- Preorder: each node, its children's subtrees in order, and then its later siblings.
abbrev pub flatten : Row → List Entry
flatten none = []
flatten (node k kids rest) = entry k (trees_in kids) ∷ (flatten kids ++ flatten rest)

-- The first n trees of a row, and the others.
pub data Parted : Type 0 where
  short : Parted
  parted : Row → Row → Parted

abbrev pub before : Kind → Row → Parted → Parted
before k kids short = short
before k kids (parted a b) = parted (node k kids a) b

abbrev pub part : ℕ → Row → Parted
part zero r = parted none r
part (suc n) none = short
part (suc n) (node k kids rest) = before k kids (part n rest)

-- A node takes the first trees of what follows it as its children.
abbrev pub adopt : Kind → Parted → Option Row
adopt k short = None
adopt k (parted a b) = Some (node k a b)

abbrev pub plant_before : Entry → Option Row → Option Row
plant_before e None = None
plant_before e (Some r) = adopt e.kind (part e.children r)

-- The row that entries are the preorder of, from the last entry to the first: each takes as its children as many as it counts of the trees that stand behind it.
abbrev pub plant : List Entry → Option Row
plant [] = Some none
plant (e ∷ es) = plant_before e (plant es)

-- exactly one tree
abbrev pub alone : Option Row → Option Row
alone None = None
alone (Some none) = None
alone (Some (node k kids none)) = Some (node k kids none)
alone (Some (node k kids (node l a b))) = None

-- A node before any adjoining field names it: it may stay as it is and takes no tree.
abbrev pub plain_node : Kind → ℕ → ℕ → Node
plain_node k n e = record { kind = k; children = n; end = e; constraint = None }

-- The nodes of a row that begins at number i, each with the number past its subtree.
abbrev pub lay : ℕ → Row → List Node
lay i none = []
lay i (node k kids rest) =
    plain_node k (trees_in kids) (suc i + size kids) ∷ (lay (suc i) kids ++ lay (suc i + size kids) rest)
