-- What comes at the foot of a tree under way.
use Rattle.std.proofs.Common.{◌≡◌, ℕ, zero, suc, ◌<◌, List, Some, None, Option, refl, ap, ◌∙◌, arith}
use Rattle.walk.specs.declared.stack.Piece.{Piece}
use Rattle.walk.specs.declared.stack.Frame.{Frame}
use Rattle.walk.specs.Ahead.{Ahead, nothing}
use Rattle.walk.specs.Stacks.{frame_at, waiting_at, of_piece, content_by, content_in, content, paused}

-- a content's tree is begun before
abbrev pub Before : ℕ → Option Piece → Type 0
Before i None = Unit {0}
Before i (Some p) = p.frame < i

abbrev pub Low : List Frame → ℕ → Type 0
Low s d = (i : ℕ) → i < d → Before i (frame_at s i).content

-- only the contents of trees begun before count
same_by : (F G : ℕ → Ahead) (i : ℕ) (o : Option Piece) → Before i o → ((j : ℕ) → j < i → F j ≡ G j) → content_by F o ≡ content_by G o
same_by F G i None l e = refl
same_by F G i (Some p) l e = ap (λ (u : Ahead). of_piece p u nothing) (e p.frame l)

module _ (s : List Frame) (d : ℕ) (low : Low s d) where
  -- more turns change nothing
  content_more : (n m i : ℕ) → i < n → i < m → i < d → content_in s n i ≡ content_in s m i
  content_more zero m i a b h = absurd (omega arith)
  content_more (suc n) zero i a b h = absurd (omega arith)
  content_more (suc n) (suc m) i a b h =
      same_by (content_in s n) (content_in s m) i (frame_at s i).content (low i h) (λ j l. content_more n m j (omega arith) (omega arith) (omega arith))

  pub content_is : (i : ℕ) → i < d → content s i ≡ content_by (content s) (frame_at s i).content
  unfolding content
  content_is i h =
      same_by (content_in s i) (λ j. content_in s (suc j) j) i (frame_at s i).content (low i h) (λ j l. content_more i (suc j) j l (omega arith) (omega arith))

  module _ (s' : List Frame) (same : (i : ℕ) → i < d → (frame_at s' i).content ≡ (frame_at s i).content) where
    content_in_kept : (n i : ℕ) → i < d → content_in s' n i ≡ content_in s n i
    content_in_kept zero i h = refl
    content_in_kept (suc n) i h =
        ap (content_by (content_in s' n)) (same i h)
        ∙ same_by (content_in s' n) (content_in s n) i (frame_at s i).content (low i h) (λ j l. content_in_kept n j (omega arith))

    pub content_kept : (i : ℕ) → i < d → content s' i ≡ content s i
    unfolding content
    content_kept i h = content_in_kept (suc i) i h

    pub paused_kept : (k : ℕ) → ((j : ℕ) → j < k → waiting_at s' j ≡ waiting_at s j) → ((j : ℕ) → j < k → (waiting_at s j).frame < d) → paused s' k ≡ paused s k
    unfolding paused
    paused_kept zero e f = refl
    paused_kept (suc k) e f =
        rw (e k (omega arith), content_kept (waiting_at s k).frame (f k (omega arith)), paused_kept k (λ j h. e j (omega arith)) (λ j h. f j (omega arith))) refl
