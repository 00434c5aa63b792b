-- What is still to walk, and the moves of a walk.
--
-- The nodes of a tree are numbered in the order of the walk, each before its children's subtrees. So the nodes from one number up to another are a part of the walk, and a node that stays
-- as it is is simply passed over. The walk leaves this order at a foot, where the content of the node adjoined to comes, and where a tree is adjoined.
use Rattle.std.specs.Prelude.{ℕ, suc, length}
use Rattle.format.specs.declared.node.Kind.{Kind}
use Rattle.format.specs.declared.node.Kind.TheVariants.{Inner, Word, Empty, Foot}
use Rattle.format.specs.Parts.{Contents}
use Rattle.format.specs.Keeps.{nodes_in, node_in}
use Rattle.walk.specs.declared.choice.Choice.{Choice}
use Rattle.walk.specs.declared.choice.Choice.TheVariants.{Stay, Adjoin}

pub data Ahead : Type 0 where
  nothing : Ahead
  -- the nodes from `a` up to `e` of the tree `t`, with what comes at the tree's foot; and then the rest. The tag τ is what the guide of the walk calls the tree.
  part : (τ t a e : ℕ) → Ahead → Ahead → Ahead

infixr 20 ◌then◌
abbrev pub ◌then◌ : Ahead → Ahead → Ahead
nothing then s = s
(part τ t a e u r) then s = part τ t a e u (r then s)

-- The content of node n comes next, and then what follows behind it: for a foot, that is what comes at the foot.
abbrev pub entered_kind : Kind → (τ t n e : ℕ) → Ahead → Ahead → Ahead
entered_kind (Inner l) τ t n e u r = part τ t (suc n) e u r
entered_kind (Word w) τ t n e u r = part τ t (suc n) e u r
entered_kind Empty τ t n e u r = part τ t (suc n) e u r
entered_kind (Foot l) τ t n e u r = u then part τ t (suc n) e u r

abbrev pub entered : Contents → (τ t n e : ℕ) → Ahead → Ahead → Ahead
entered c τ t n e u r = entered_kind (node_in c t n).kind τ t n e u r

-- the content of node n by itself
abbrev pub content_kind : Kind → (τ t n e : ℕ) → Ahead → Ahead
content_kind (Inner l) τ t n e u = part τ t (suc n) e u nothing
content_kind (Word w) τ t n e u = part τ t (suc n) e u nothing
content_kind Empty τ t n e u = part τ t (suc n) e u nothing
content_kind (Foot l) τ t n e u = u

abbrev pub content_of : Contents → (τ t n : ℕ) → Ahead → Ahead
content_of c τ t n u = content_kind (node_in c t n).kind τ t n (node_in c t n).end u

-- The tree β is adjoined at node n: the walk goes through that tree, with the node's content at its foot, and then on behind the node.
abbrev pub adjoined : Contents → (β σ : ℕ) → (τ t n e : ℕ) → Ahead → Ahead → Ahead
adjoined c β σ τ t n e u r = part σ β 0 (length (nodes_in c β)) (content_of c τ t n u) (part τ t (node_in c t n).end e u r)

-- a choice followed
abbrev pub followed : Contents → Choice → (τ t n e : ℕ) → Ahead → Ahead → Ahead
followed c Stay τ t n e u r = entered c τ t n e u r
followed c (Adjoin β σ) τ t n e u r = adjoined c β σ τ t n e u r

-- a whole tree that is adjoined nowhere
abbrev pub whole_tree : Contents → (τ t : ℕ) → Ahead
whole_tree c τ t = part τ t 0 (length (nodes_in c t)) nothing nothing
