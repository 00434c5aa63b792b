-- A dot with a child after it is below 8.
use Rattle.std.proofs.Common.{◌≡◌, ℕ, zero, suc, ◌<◌, ◌≤◌, List, [], ◌∷◌, length, get_or, refl, ap, arith}
use native.Mathlib.Decide.{dec_lt}
use lib.ListN.{get_or-eq_default}
use Rattle.format.specs.declared.node.Kind.{Kind}
use Rattle.format.specs.declared.node.Kind.TheVariants.{Inner, Word, Empty, Foot}
use Rattle.format.specs.declared.node.Node.{Node}
use Rattle.format.specs.declared.spot.Spot.{Spot}
use Rattle.format.specs.declared.spot.Spot.TheVariants.{Top, At}
use Rattle.format.specs.declared.spot.Next.{Next}
use Rattle.format.specs.declared.spot.Next.TheVariants.{Bottom, Child}
use Rattle.format.specs.Parts.{Contents, no_node}
use Rattle.format.specs.Keeps.{nodes_in, node_in, is_inner, InnerArity}
use Rattle.format.specs.Questions.{nth, roots_from, child_next, once, next_in, next_at_top, after_dot}
use Rattle.chart.specs.Early.{Early}

nth_below : (vs : List Node) (k i d : ℕ) → Early (child_next (nth (roots_from vs k i) d)) d → (k ≤ 8) → Early (child_next (nth (roots_from vs k i) d)) d
nth_below vs k i d e h = e

-- a child with a number is one of so many
child_early : (vs : List Node) (k i d : ℕ) → k ≤ 8 → Early (child_next (nth (roots_from vs k i) d)) d
child_early vs k i d h = by vs k i d (λ l. omega arith)
  where
    by : (us : List Node) (m j e : ℕ) → (e < m → d < 8) → Early (child_next (nth (roots_from us m j) e)) d
    by us zero j e f = tt
    by us (suc m) j zero f = f (omega arith)
    by us (suc m) j (suc e) f = by us m (get_or us j no_node).end e (λ l. f (omega arith))

once_early : (x : Next) (d : ℕ) → (d ≡ 0 → Early x d) → Early (once x d) d
once_early x zero h = h refl
once_early x (suc d) h = tt

kind_early : (k : Kind) (vs : List Node) (m n d : ℕ) → (is_inner k ≡ is_inner (Inner 0) → m ≤ 8) → Early (next_in k (roots_from vs m n) d) d
kind_early (Inner l) vs m n d h = child_early vs m n d (h refl)
kind_early (Word w) vs m n d h = tt
kind_early Empty vs m n d h = tt
kind_early (Foot l) vs m n d h = once_early Bottom d (λ e. tt)

top_early : (vs : List Node) (d : ℕ) → Early (next_at_top vs d) d
top_early [] d = tt
top_early (v ∷ vs) d = once_early (Child 0) d (λ e. omega arith)

pub dot_early : (c : Contents) → InnerArity c → (t : ℕ) (s : Spot) (d : ℕ) → Early (after_dot c t s d) d
dot_early c arity t Top d = top_early (nodes_in c t) d
dot_early c arity t (At n) d = kind_early (node_in c t n).kind (nodes_in c t) (node_in c t n).children (suc n) d few
  where
    few : is_inner (node_in c t n).kind ≡ is_inner (Inner 0) → (node_in c t n).children ≤ 8
    few e = by (dec_lt n (length (nodes_in c t)))
      where
        by : Dec (n < length (nodes_in c t)) → (node_in c t n).children ≤ 8
        by (yes h) = (arity t n (h, e)).1
        by (no h) =
            let z : (node_in c t n).children ≡ 0 = ap (λ (v : Node). v.children) (get_or-eq_default (nodes_in c t) no_node (omega arith)) in
            omega arith
