-- What the layers above ask of a grammar.
use Rattle.std.specs.Prelude.{ℕ, zero, suc, ◌-◌, Bool, cond, not, ◌&&◌, List, [], ◌∷◌, ◌++◌, length, drop, Some, None, Option, nat_lt, slice_index_or}
use Rattle.format.specs.declared.node.Kind.{Kind}
use Rattle.format.specs.declared.node.Kind.TheVariants.{Inner, Word, Empty, Foot}
use Rattle.format.specs.declared.node.Node.{Node}
use Rattle.format.specs.declared.spot.Spot.{Spot}
use Rattle.format.specs.declared.spot.Spot.TheVariants.{Top, At}
use Rattle.format.specs.declared.spot.Next.{Next}
use Rattle.format.specs.declared.spot.Next.TheVariants.{End, Bottom, Child}
use Rattle.format.specs.declared.spot.Site.{Site}
use Rattle.format.specs.Parts.{Contents, no_node}
use Rattle.format.specs.Judge.{is_auxiliary}
use Rattle.format.specs.Keeps.{tree_in, nodes_in, node_in, is_foot, lists}

-- the element at a number, if there is one
abbrev pub nth : {X : Type 0} → List X → ℕ → Option X
nth [] k = None
nth (x ∷ xs) zero = Some x
nth (x ∷ xs) (suc k) = nth xs k

abbrev pub first : {X : Type 0} → List X → Option X
first [] = None
first (x ∷ xs) = Some x

-- Children ------------------------------------------------------------------------------------------------------------------

-- k subtrees one behind the other: the numbers of their roots, from i on
abbrev pub roots_from : List Node → ℕ → ℕ → List ℕ
roots_from vs zero i = []
roots_from vs (suc k) i = i ∷ roots_from vs k (slice_index_or vs i no_node).end

-- the children of node n of tree t, in order
abbrev pub children_of : Contents → ℕ → ℕ → List ℕ
children_of c t n = roots_from (nodes_in c t) (node_in c t n).children (suc n)

-- After a dot -----------------------------------------------------------------------------------------------------------------

abbrev pub child_next : Option ℕ → Next
child_next None = End
child_next (Some n) = Child n

-- the one child of a place that has one
abbrev pub once : Next → ℕ → Next
once x zero = x
once x (suc d) = End

-- An inner node has its children, a foot has the bottom, and a leaf has nothing.
abbrev pub next_in : Kind → List ℕ → ℕ → Next
next_in (Inner l) cs d = child_next (nth cs d)
next_in (Word w) cs d = End
next_in Empty cs d = End
next_in (Foot l) cs d = once Bottom d

-- The top of a tree has the root.
abbrev pub next_at_top : List Node → ℕ → Next
next_at_top [] d = End
next_at_top (v ∷ vs) d = once (Child 0) d

abbrev pub after_dot : Contents → ℕ → Spot → ℕ → Next
after_dot c t Top d = next_at_top (nodes_in c t) d
after_dot c t (At n) d = next_in (node_in c t n).kind (children_of c t n) d

-- Feet, starts and listings -----------------------------------------------------------------------------------------------------

-- the first foot among nodes that are numbered from n on
abbrev pub foot_from : ℕ → List Node → Option ℕ
foot_from n [] = None
foot_from n (v ∷ vs) = cond (is_foot v.kind) (Some n) (foot_from (suc n) vs)

abbrev pub foot_of_tree : Contents → ℕ → Option ℕ
foot_of_tree c t = foot_from 0 (nodes_in c t)

-- A derivation may start with a tree that is initial.
abbrev pub may_start : Contents → ℕ → Bool
may_start c t = nat_lt t (length c.trees) && not (is_auxiliary (tree_in c t).form)

-- the nodes that list tree b, among nodes of tree t that are numbered from n on
abbrev pub listing_nodes : ℕ → ℕ → ℕ → List Node → List Site
listing_nodes b t n [] = []
listing_nodes b t n (v ∷ vs) = cond (lists v.constraint b) (record { tree = t; node = n } ∷ listing_nodes b t (suc n) vs) (listing_nodes b t (suc n) vs)

-- in k trees from tree t on
abbrev pub listing_trees : Contents → ℕ → ℕ → ℕ → List Site
listing_trees c b zero t = []
listing_trees c b (suc k) t = listing_nodes b t 0 (nodes_in c t) ++ listing_trees c b k (suc t)

-- the nodes of the grammar that list tree b, by tree and then by node, from node n of tree t on
abbrev pub listing_from : Contents → ℕ → ℕ → ℕ → List Site
listing_from c b t n = listing_nodes b t n (drop n (nodes_in c t)) ++ listing_trees c b (length c.trees - suc t) (suc t)

abbrev pub listing : Contents → ℕ → List Site
listing c b = listing_trees c b (length c.trees) 0
