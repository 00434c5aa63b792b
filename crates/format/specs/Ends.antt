-- Subtrees one behind the other, by the numbers past them.
use Rattle.std.specs.Prelude.{◌≡◌, ℕ, zero, suc, Bool, true, false, cond, List, [], ◌∷◌, length, Some, None, Option, nat_lt, slice_index_or}
use Rattle.format.specs.declared.node.Node.{Node}
use Rattle.format.specs.Trees.{Row, Entry, entry, plant, alone, lay, plain_node}
use Rattle.format.specs.Parts.{no_node}

-- the number past the n subtrees that begin at number i
abbrev pub past : List Node → ℕ → ℕ → Option ℕ
past ns zero i = Some i
past ns (suc n) i = cond (nat_lt i (length ns)) (past ns n (slice_index_or ns i no_node).end) None

-- a node as the file had it
abbrev pub bare : Node → Entry
bare v = entry v.kind v.children

abbrev pub bares : List Node → List Entry
bares [] = []
bares (v ∷ vs) = bare v ∷ bares vs

-- a node just read, whose end is not known
abbrev pub fresh : Entry → Node
fresh e = plain_node e.kind e.children 0

abbrev pub freshes : List Entry → List Node
freshes [] = []
freshes (e ∷ es) = fresh e ∷ freshes es

-- Whether child counts make exactly one tree; if they do, the nodes lie as it does.
abbrev pub Closed : List Entry → List Node → Bool → Type 0
Closed es ns true = (r : Row) × (alone (plant es) ≡ Some r) × (ns ≡ lay 0 r)
Closed es ns false = alone (plant es) ≡ None
