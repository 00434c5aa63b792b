-- The dot of an item, and the row below its place.
use Rattle.std.proofs.Common.{◌≡◌, ℕ, zero, suc, true, List, [], ◌∷◌, ◌++◌, take, refl, ap}
use Rattle.format.specs.declared.node.Kind.{Kind}
use Rattle.format.specs.declared.node.Kind.TheVariants.{Inner, Word, Empty, Foot}
use Rattle.format.specs.declared.node.Node.{Node}
use Rattle.format.specs.declared.spot.Spot.{Spot}
use Rattle.format.specs.declared.spot.Spot.TheVariants.{Top, At}
use Rattle.format.specs.declared.spot.Next.{Next}
use Rattle.format.specs.declared.spot.Next.TheVariants.{Bottom, Child}
use Rattle.format.specs.Parts.{Contents}
use Rattle.format.specs.Keeps.{nodes_in, node_in}
use Rattle.format.specs.Questions.{nth, child_next, next_in, next_at_top, children_of, after_dot}
use Rattle.steps.specs.Conclusions.{is_end}
use Rattle.derivation.specs.Derivations.{as_children, below_kind, below_top, below}

-- The dot moves past one more sibling.
nth_past : (cs : List ℕ) (d n : ℕ) → child_next (nth cs d) ≡ Child n → take (suc d) (as_children cs) ≡ take d (as_children cs) ++ (Child n ∷ [])
nth_past [] d n e = cc
nth_past (x ∷ cs) zero n e = cc
nth_past (x ∷ cs) (suc d) n e = ap (λ (r : List Next). Child x ∷ r) (nth_past cs d n e)

kind_past : (k : Kind) (cs : List ℕ) (d n : ℕ) → next_in k cs d ≡ Child n → take (suc d) (below_kind k cs) ≡ take d (below_kind k cs) ++ (Child n ∷ [])
kind_past (Inner l) cs d n e = nth_past cs d n e
kind_past (Word w) cs d n e = cc
kind_past (Foot l) cs zero n e = cc
kind_past (Foot l) cs (suc d) n e = cc
kind_past Empty cs d n e = cc

top_past : (vs : List Node) (d n : ℕ) → next_at_top vs d ≡ Child n → take (suc d) (below_top vs) ≡ take d (below_top vs) ++ (Child n ∷ [])
top_past [] d n e = cc
top_past (v ∷ vs) zero n e = cc
top_past (v ∷ vs) (suc d) n e = cc

pub dot_past : (c : Contents) (t : ℕ) (s : Spot) (d n : ℕ) → after_dot c t s d ≡ Child n → take (suc d) (below c t s) ≡ take d (below c t s) ++ (Child n ∷ [])
dot_past c t Top d n e = top_past (nodes_in c t) d n e
dot_past c t (At v) d n e = kind_past (node_in c t v).kind (children_of c t v) d n e

-- Before the last dot are all siblings.
take_nil : (d : ℕ) → take {A = Next} d [] ≡ []
take_nil zero = refl
take_nil (suc d) = refl

nth_all : (cs : List ℕ) (d : ℕ) → is_end (child_next (nth cs d)) ≡ true → take d (as_children cs) ≡ as_children cs
nth_all [] zero e = refl
nth_all [] (suc d) e = refl
nth_all (x ∷ cs) zero e = cc
nth_all (x ∷ cs) (suc d) e = ap (λ (r : List Next). Child x ∷ r) (nth_all cs d e)

kind_last : (k : Kind) (cs : List ℕ) (d : ℕ) → is_end (next_in k cs d) ≡ true → take d (below_kind k cs) ≡ below_kind k cs
kind_last (Inner l) cs d e = nth_all cs d e
kind_last (Word w) cs d e = take_nil d
kind_last (Foot l) cs zero e = cc
kind_last (Foot l) cs (suc d) e = ap (λ (r : List Next). Bottom ∷ r) (take_nil d)
kind_last Empty cs d e = take_nil d

top_last : (vs : List Node) (d : ℕ) → is_end (next_at_top vs d) ≡ true → take d (below_top vs) ≡ below_top vs
top_last [] d e = take_nil d
top_last (v ∷ vs) zero e = cc
top_last (v ∷ vs) (suc d) e = ap (λ (r : List Next). Child 0 ∷ r) (take_nil d)

pub dot_last : (c : Contents) (t : ℕ) (s : Spot) (d : ℕ) → is_end (after_dot c t s d) ≡ true → take d (below c t s) ≡ below c t s
dot_last c t Top d e = top_last (nodes_in c t) d e
dot_last c t (At v) d e = kind_last (node_in c t v).kind (children_of c t v) d e

-- the row below a top has at most one sibling
pub whole_top : (vs : List Node) → take 1 (below_top vs) ≡ below_top vs
whole_top [] = refl
whole_top (v ∷ vs) = refl

-- below a foot is its bottom
pub foot_row : (c : Contents) (t n l : ℕ) → (node_in c t n).kind ≡ Foot l → below c t (At n) ≡ Bottom ∷ []
foot_row c t n l e = ap (λ (k : Kind). below_kind k (children_of c t n)) e
