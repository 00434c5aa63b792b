-- The siblings behind a dot.
use Rattle.std.proofs.Common.{◌≡◌, ℕ, zero, suc, ◌<◌, true, List, [], ◌∷◌, length, drop, sym, refl, ap, ◌∙◌, arith}
use Rattle.format.specs.declared.node.Kind.{Kind}
use Rattle.format.specs.declared.node.Kind.TheVariants.{Inner, Word, Empty, Foot}
use Rattle.format.specs.declared.node.Node.{Node}
use Rattle.format.specs.declared.spot.Spot.{Spot}
use Rattle.format.specs.declared.spot.Spot.TheVariants.{Top, At}
use Rattle.format.specs.declared.spot.Next.{Next}
use Rattle.format.specs.declared.spot.Next.TheVariants.{Bottom, Child}
use Rattle.format.specs.Parts.{Contents}
use Rattle.format.specs.Keeps.{nodes_in, node_in}
use Rattle.format.specs.Questions.{nth, child_next, once, next_in, next_at_top, children_of, after_dot}
use Rattle.steps.specs.Conclusions.{is_end}
use Rattle.derivation.specs.Derivations.{as_children, below_kind, below_top, below}
use Rattle.derivation.specs.Walks.{first_in, later_in}

-- the dot behind a row that begins at a dot
abbrev pub past : ℕ → List Next → ℕ
past d [] = d
past d (k ∷ ks) = past (suc d) ks

drop_nil : (d : ℕ) → drop {A = Next} d [] ≡ []
drop_nil zero = refl
drop_nil (suc d) = refl

drop_later : (d : ℕ) (ks : List Next) → drop (suc d) ks ≡ later_in (drop d ks)
drop_later zero [] = refl
drop_later zero (k ∷ ks) = refl
drop_later (suc d) [] = refl
drop_later (suc d) (k ∷ ks) = drop_later d ks

nth_drop : (ns : List ℕ) (d : ℕ) → child_next (nth ns d) ≡ first_in (drop d (as_children ns))
nth_drop [] zero = refl
nth_drop [] (suc d) = refl
nth_drop (n ∷ ns) zero = refl
nth_drop (n ∷ ns) (suc d) = nth_drop ns d

once_drop : (x : Next) (d : ℕ) → once x d ≡ first_in (drop d (x ∷ []))
once_drop x zero = refl
once_drop x (suc d) = sym (ap first_in (drop_nil d))

kind_drop : (k : Kind) (ns : List ℕ) (d : ℕ) → next_in k ns d ≡ first_in (drop d (below_kind k ns))
kind_drop (Inner l) ns d = nth_drop ns d
kind_drop (Word w) ns d = sym (ap first_in (drop_nil d))
kind_drop (Foot l) ns d = once_drop Bottom d
kind_drop Empty ns d = sym (ap first_in (drop_nil d))

top_drop : (vs : List Node) (d : ℕ) → next_at_top vs d ≡ first_in (drop d (below_top vs))
top_drop [] d = sym (ap first_in (drop_nil d))
top_drop (v ∷ vs) d = once_drop (Child 0) d

after_drop : (c : Contents) (t : ℕ) (s : Spot) (d : ℕ) → after_dot c t s d ≡ first_in (drop d (below c t s))
after_drop c t Top d = top_drop (nodes_in c t) d
after_drop c t (At n) d = kind_drop (node_in c t n).kind (children_of c t n) d

-- what comes after the dot is the first sibling behind it
pub after_is : (c : Contents) (t : ℕ) (s : Spot) (d : ℕ) {k : Next} {ks : List Next} → drop d (below c t s) ≡ k ∷ ks → after_dot c t s d ≡ k
after_is c t s d e = after_drop c t s d ∙ ap first_in e

pub drop_is : (d : ℕ) (xs : List Next) {k : Next} {ks : List Next} → drop d xs ≡ k ∷ ks → drop (suc d) xs ≡ ks
drop_is d xs e = drop_later d xs ∙ ap later_in e

-- behind the whole row the dot is last
pub past_end : (c : Contents) (t : ℕ) (s : Spot) (d : ℕ) (ks : List Next) → drop d (below c t s) ≡ ks → is_end (after_dot c t s (past d ks)) ≡ true
past_end c t s d [] e = ap is_end (after_drop c t s d ∙ ap first_in e)
past_end c t s d (k ∷ ks) e = past_end c t s (suc d) ks (drop_is d (below c t s) e)

-- behind the root the dot is 1
pub past_root : (vs : List Node) → 0 < length vs → past 0 (below_top vs) ≡ 1
past_root [] h = absurd (omega arith)
past_root (v ∷ vs) h = refl

never_bottom : (ns : List ℕ) (d : ℕ) → child_next (nth ns d) ≡ Bottom → ◌≡◌ {A = ℕ} 0 1
never_bottom [] d e = cc
never_bottom (n ∷ ns) zero e = cc
never_bottom (n ∷ ns) (suc d) e = never_bottom ns d e

-- only a foot has a bottom
kind_bottom : (k : Kind) (ns : List ℕ) (d : ℕ) → next_in k ns d ≡ Bottom → (l : ℕ) × (k ≡ Foot l)
kind_bottom (Inner l) ns d e = (l, (let z = never_bottom ns d e in cc))
kind_bottom (Word w) ns d e = (w, cc)
kind_bottom (Foot l) ns d e = (l, refl)
kind_bottom Empty ns d e = (0, cc)

pub bottom_foot : (c : Contents) (t n d : ℕ) → after_dot c t (At n) d ≡ Bottom → (l : ℕ) × ((node_in c t n).kind ≡ Foot l)
bottom_foot c t n d e = kind_bottom (node_in c t n).kind (children_of c t n) d e

-- and at its first dot only
kind_bottom_first : (k : Kind) (ns : List ℕ) (d : ℕ) → next_in k ns (suc d) ≡ Bottom → ◌≡◌ {A = ℕ} 0 1
kind_bottom_first (Inner l) ns d e = never_bottom ns (suc d) e
kind_bottom_first (Word w) ns d e = cc
kind_bottom_first (Foot l) ns d e = cc
kind_bottom_first Empty ns d e = cc

pub bottom_first : (c : Contents) (t n d : ℕ) → after_dot c t (At n) (suc d) ≡ Bottom → ◌≡◌ {A = ℕ} 0 1
bottom_first c t n d e = kind_bottom_first (node_in c t n).kind (children_of c t n) d e

top_never : (vs : List Node) (d : ℕ) → next_at_top vs d ≡ Bottom → ◌≡◌ {A = ℕ} 0 1
top_never [] d e = cc
top_never (v ∷ vs) zero e = cc
top_never (v ∷ vs) (suc d) e = cc

pub bottom_not_top : (c : Contents) (t d : ℕ) → after_dot c t Top d ≡ Bottom → ◌≡◌ {A = ℕ} 0 1
bottom_not_top c t d e = top_never (nodes_in c t) d e
