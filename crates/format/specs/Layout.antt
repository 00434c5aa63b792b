-- What a laid out tree gives the layers above: children one behind the other, each with its whole subtree.
use Rattle.std.specs.Prelude.{◌≡◌, ℕ, zero, suc, ◌<◌, ◌≤◌, List, length, slice_index_or}
use Rattle.format.specs.declared.node.Node.{Node}
use Rattle.format.specs.Parts.{no_node}

-- the number past the k subtrees that begin at number i
abbrev pub pass : List Node → ℕ → ℕ → ℕ
pass vs zero i = i
pass vs (suc k) i = pass vs k (slice_index_or vs i no_node).end

-- A subtree ends behind its root and within the tree, and has whole subtrees in it; the children begin right behind the root
-- and end where the subtree ends.
pub record Nested (vs : List Node) (n : ℕ) : Type 0 where
  pub behind : n < (slice_index_or vs n no_node).end
  pub within : (slice_index_or vs n no_node).end ≤ length vs
  pub subtrees : (k : ℕ) → n < k → k < (slice_index_or vs n no_node).end → (slice_index_or vs k no_node).end ≤ (slice_index_or vs n no_node).end
  pub children : pass vs (slice_index_or vs n no_node).children (suc n) ≡ (slice_index_or vs n no_node).end
  pub child : (k : ℕ) → k < (slice_index_or vs n no_node).children → pass vs k (suc n) < (slice_index_or vs n no_node).end
