-- What a stack and a walk under way mean.
use Rattle.std.specs.Prelude.{ℕ, zero, suc, ◌+◌, ◌-◌, ◌*◌, ◌/◌, ◌%◌, ◌<◌, ◌≤◌, List, [], length, Some, None, Option, slice_index_or}
use Rattle.std.specs.Option.{ForSome}
use Rattle.format.specs.declared.node.Kind.{Kind}
use Rattle.format.specs.declared.node.Kind.TheVariants.{Inner, Word, Empty, Foot}
use Rattle.format.specs.Parts.{Contents}
use Rattle.format.specs.Keeps.{nodes_in, node_in}
use Rattle.walk.specs.declared.stack.Piece.{Piece}
use Rattle.walk.specs.declared.stack.Frame.{Frame}
use Rattle.walk.specs.Ahead.{Ahead, nothing, part}

-- Entries and waiting pieces --------------------------------------------------------------------------------------------------

abbrev pub no_piece : Piece
no_piece = record { frame = 0; tag = 0; tree = 0; node = 0; end = 0 }

-- what stands for an entry that is not there
abbrev pub no_frame : Frame
no_frame = record { content = None; waiting = [] }

abbrev pub frame_at : List Frame → ℕ → Frame
frame_at s i = slice_index_or s i no_frame

-- the piece that waits at k, two to an entry
abbrev pub waiting_at : List Frame → ℕ → Piece
waiting_at s k = slice_index_or (frame_at s (k / 2)).waiting (k % 2) no_piece

-- the content of a node: what comes at the foot, for a foot; otherwise what is inside
abbrev pub content_piece : Kind → Piece → Option Piece → Option Piece
content_piece (Inner l) p o = Some p
content_piece (Word w) p o = Some p
content_piece Empty p o = Some p
content_piece (Foot l) p o = o

-- What is still to walk ---------------------------------------------------------------------------------------------------------

-- a piece of a tree at whose foot u comes
abbrev pub of_piece : Piece → Ahead → Ahead → Ahead
of_piece p u r = part p.tag p.tree p.node p.end u r

abbrev pub content_by : (ℕ → Ahead) → Option Piece → Ahead
content_by F None = nothing
content_by F (Some p) = of_piece p (F p.frame) nothing

-- what comes at the foot of the tree of entry i: at most n entries one through the other
abbrev pub content_in : List Frame → ℕ → ℕ → Ahead
content_in s zero i = nothing
content_in s (suc n) i = content_by (content_in s n) (frame_at s i).content

unfoldable pub content : List Frame → ℕ → Ahead
content s i = content_in s (suc i) i

-- the last k pieces that wait, the last one first
unfoldable pub paused : List Frame → ℕ → Ahead
paused s zero = nothing
paused s (suc k) = of_piece (waiting_at s k) (content s (waiting_at s k).frame) (paused s k)

-- What every walk under way keeps --------------------------------------------------------------------------------------------------

-- how many contents lie one in the other
abbrev pub nest : Ahead → ℕ
nest nothing = 0
nest (part τ t a e u r) = suc (nest u)

abbrev pub level : List Frame → Piece → ℕ
level s p = nest (content s p.frame)

-- A piece of a tree whose entry is among the first d: its nodes are there, each with its whole subtree.
pub record Fine (c : Contents) (d : ℕ) (p : Piece) : Type 0 where
  pub begun : p.frame < d
  pub order : p.node ≤ p.end
  pub inside : p.end ≤ length (nodes_in c p.tree)
  pub whole : (n : ℕ) → p.node ≤ n → n < p.end → (node_in c p.tree n).end ≤ p.end

abbrev pub FineContent : Contents → ℕ → Option Piece → Type 0
FineContent c i o = ForSome o (Fine c i)

-- The walk has begun d trees, k pieces wait, and p is being walked. Each tree begun gives room for two pieces to wait: one at the node that it is adjoined to, one at its foot.
pub record Going (c : Contents) (s : List Frame) (d k : ℕ) (p : Piece) : Type 0 where
  pub room : d ≤ length s
  pub here : Fine c d p
  pub waits : (j : ℕ) → j < k → Fine c d (waiting_at s j)
  pub frames : (i : ℕ) → i < d → FineContent c i (frame_at s i).content
  pub top : 0 < k → level s (waiting_at s (k - 1)) ≤ suc (level s p)
  pub chain : (j : ℕ) → suc j < k → level s (waiting_at s j) ≤ suc (level s (waiting_at s (suc j)))
  pub bound : k + level s p + 2 ≤ 2 * d
