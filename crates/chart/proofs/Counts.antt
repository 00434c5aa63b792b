-- A count from 0 to 255 beside the items of a slice.
use Rattle.std.proofs.Common.{◌≡◌, ℕ, ◌+◌, ◌-◌, ◌≤◌, Bool, true, false, Iter, length, drop, ap, refl, ◌∙◌, arith, length-drop, length-take}
use mathlib.Core.Logic.{◌⊎◌, inl, inr}
use Rattle.std.specs.Slice.Iter.{iter_rest}
use Rattle.format.specs.declared.node.Node.{Node}
use native.Mathlib.Nat.{min-le_right}
use Rattle.std.specs.Range.{range_inclusive_len}
use Rattle.std.specs.declared.ops.RangeInclusive.{RangeInclusive}
use Rattle.format.specs.Parts.{Contents}
use Rattle.format.specs.Keeps.{nodes_in, tree_in, Few}

-- how many numbers the count has left
abbrev pub left : RangeInclusive ℕ → ℕ
left s = range_inclusive_len (λ x y. y - x) s.start s.end s.exhausted

-- the count has given n numbers
abbrev pub Counted : RangeInclusive ℕ → ℕ → Type 0
Counted s n = (s.end ≡ 255) × (left s + n ≡ 256) × (s.exhausted ≡ false → s.start ≡ n)

fresh : (s : RangeInclusive ℕ) → s.exhausted ≡ false → left s ≡ s.end + 1 - s.start
fresh s z = omega (arith, ap (range_inclusive_len (λ x y. y - x) s.start s.end) z)

spent : (s : RangeInclusive ℕ) → s.exhausted ≡ true → left s ≡ 0
spent s z = ap (range_inclusive_len (λ x y. y - x) s.start s.end) z

-- the next number is how many were given
pub counted_next : (s : RangeInclusive ℕ) (n x l : ℕ) → Counted s n → x ≡ s.start → l + 1 ≡ left s → x ≡ n
counted_next s n x l h e more = by s.exhausted refl
  where
    by : (b : Bool) → s.exhausted ≡ b → x ≡ n
    by true z = absurd (omega (arith, more, spent s z))
    by false z = omega (arith, e, h.2 z)

-- it begins at none
pub counted_first : (s : RangeInclusive ℕ) → s.start ≡ 0 → s.end ≡ 255 → s.exhausted ≡ false → Counted s 0
counted_first s a e z = (e, omega (arith, fresh s z, a, e), λ _. a)

-- and goes on by one
pub counted_more : (s t : RangeInclusive ℕ) (n m : ℕ) → Counted s n → t.end ≡ s.end → s.start ≡ n → left t + 1 ≡ left s → (t.exhausted ≡ false → t.start ≡ s.start + 1) → m ≡ n + 1 → Counted t m
counted_more s t n m h e first less on q = (e ∙ h.0, omega (arith, less, h.1, q), λ z. let a : t.start ≡ m = omega (arith, on z, first, q) in a)

-- where it ends, or the items end, there are no more items
pub counted_end : (s : RangeInclusive ℕ) (i : Iter Node) (n long : ℕ) → Counted s n → length (iter_rest i) + n ≡ long → long ≤ 256
    → ((u : RangeInclusive ℕ) × ((u.end ≡ s.end) × ((left s ≡ 0) × (u ≡ s)))) ⊎ ((j : Iter Node) × ((length (iter_rest i) ≡ 0) × (j ≡ i))) → long ≤ n
counted_end s i n long h e few (inl a) = omega (arith, h.1, e, few, a.1.1.0)
counted_end s i n long h e few (inr a) = omega (arith, e, a.1.0)

-- a tree has no more nodes than the count has numbers
pub few_nodes : (c : Contents) → Few c → (t : ℕ) → length (nodes_in c t) ≤ 256
few_nodes c few t =
    let a = length-take (tree_in c t).size (drop (tree_in c t).start c.nodes) in
    let b = length-drop (tree_in c t).start c.nodes in
    let m = min-le_right (tree_in c t).size (length (drop (tree_in c t).start c.nodes)) in
    omega (arith, few.1)
