-- One more constraint of a description is one more adjoining field.
use Rattle.std.proofs.Common.{◌≡◌, ℕ, suc, ◌<◌, true, false, List, [], ◌∷◌, ◌++◌, length, get_or, set, is_some, None, sym, refl, ap, ◌∙◌, subst, inl, inr, arith}
use Rattle.std.specs.List.{AllByRecursion}
use Rattle.format.specs.declared.stage.Phase.{Phase}
use Rattle.format.specs.declared.stage.Phase.TheVariants.{Adjoinings}
use Rattle.format.specs.declared.node.Kind.{Kind}
use Rattle.format.specs.declared.node.Obligation.{Obligation}
use Rattle.format.specs.declared.node.Obligation.TheVariants.{Optional, Obligatory}
use Rattle.format.specs.declared.node.Constraint.{Constraint}
use Rattle.format.specs.declared.node.Node.{Node}
use Rattle.format.specs.declared.node.Tree.{Tree}
use Rattle.format.specs.Trees.{size}
use Rattle.format.specs.Parts.{no_node, label_of_kind, slot, constrained}
use Rattle.format.specs.Judge.{State, with_nodes, constraint_of}
use Rattle.format.specs.Format.{Elementary, as_row, preorder, tree_at, kind_at, trees_from, laid_out, Adjoining, Adjoinable, Takes, CanMeet, AdjoiningRules, Apart, constrain_all, obligation_byte, constraint_by}
use Rattle.format.proofs.Cases.{nothing}
use Rattle.format.proofs.Taken.{Listed, Choice, ConstraintTaken}
use Rattle.format.proofs.Placed.{length_trees_from, length_laid_out, tree_placed, slot_is, within, one_place, length_flatten, laid_out_bare}
use Rattle.format.proofs.Constrained.{constrain_all_more, kind_placed, all_set, none_other}

-- what has been read of a description, when so many trees and constraints have
abbrev pub reached : Phase → ℕ → ℕ → List Elementary → List Adjoining → State
reached ph l w ts xs = record { phase = ph; labels = l; words = w; trees = trees_from 0 ts; nodes = constrain_all (trees_from 0 ts) xs (laid_out ts) }

-- the body of the field of a constraint
abbrev pub body_of : Adjoining → List ℕ
body_of a = a.tree ∷ (a.node ∷ (obligation_byte a.obligation ∷ a.takes))

-- Lists of trees, in the table and in the description -----------------------------------------------------------------

takes_from : (ts : List Elementary) (l least : ℕ) (bs : List ℕ) → Listed (trees_from 0 ts) l least bs → Takes ts l least bs
takes_from ts l least [] h = tt
takes_from ts l least (b ∷ bs) h =
    let few : b < length ts = omega (arith, length_trees_from 0 ts, h.1) in
    let e = tree_placed 0 ts b few in
    (h.0, few, ap (λ (t : Tree). t.form) (sym e) ∙ h.2, ap (λ (t : Tree). t.label) (sym e) ∙ h.3, takes_from ts l (suc b) bs h.4)

from_takes : (ts : List Elementary) (l least : ℕ) (bs : List ℕ) → Takes ts l least bs → Listed (trees_from 0 ts) l least bs
from_takes ts l least [] h = tt
from_takes ts l least (b ∷ bs) h =
    let e = tree_placed 0 ts b h.1 in
    (h.0, omega (arith, length_trees_from 0 ts, h.1), ap (λ (t : Tree). t.form) e ∙ h.2, ap (λ (t : Tree). t.label) e ∙ h.3, from_takes ts l (suc b) bs h.4)

-- the obligation that a byte says
obligation_from : (p : ℕ) (bs : List ℕ) → Choice p bs → (o : Obligation) × (p ≡ obligation_byte o) × CanMeet o bs
obligation_from p bs (inl e) = (Optional, e, tt)
obligation_from p bs (inr e) = (Obligatory, e.0, e.1)

from_obligation : (o : Obligation) (bs : List ℕ) → CanMeet o bs → Choice (obligation_byte o) bs
from_obligation Optional bs h = inl refl
from_obligation Obligatory bs h = inr (refl, h)

same_constraint : (a : Adjoining) → constraint_of (obligation_byte a.obligation) a.takes ≡ constraint_by a
same_constraint a = by a.obligation
  where
    by : (o : Obligation) → constraint_of (obligation_byte o) a.takes ≡ constraint_by (record { tree = a.tree; node = a.node; obligation = o; takes = a.takes })
    by Optional = refl
    by Obligatory = refl

-- Nodes that are there ------------------------------------------------------------------------------------------------

pub node_size : (ts : List Elementary) (t : ℕ) → length (preorder (tree_at ts t)) ≡ size (as_row (tree_at ts t))
node_size ts t = length_flatten (as_row (tree_at ts t))

slot_there : (ts : List Elementary) (a : Adjoining) → AdjoiningRules ts a → slot (trees_from 0 ts) a.tree a.node < length (laid_out ts)
slot_there ts a r =
    let s = slot_is ts a.tree a.node r.tree_there in
    let w = within ts a.tree r.tree_there in
    let n = node_size ts a.tree in
    let m = r.node_there in
    omega (arith, length_laid_out ts)

all_there : (ts : List Elementary) (xs : List Adjoining) → AllByRecursion (AdjoiningRules ts) xs → AllByRecursion (λ x. slot (trees_from 0 ts) x.tree x.node < length (laid_out ts)) xs
all_there ts [] h = tt
all_there ts (x ∷ xs) h = (slot_there ts x h.0, all_there ts xs h.1)

-- two constraints of one slot are of one node
one_slot : (ts : List Elementary) (x a : Adjoining) → AdjoiningRules ts x → AdjoiningRules ts a
    → slot (trees_from 0 ts) a.tree a.node ≡ slot (trees_from 0 ts) x.tree x.node → (x.tree ≡ a.tree) × (x.node ≡ a.node)
one_slot ts x a rx ra e =
    one_place ts x.tree x.node a.tree a.node rx.tree_there (omega (arith, node_size ts x.tree, rx.node_there)) ra.tree_there (omega (arith, node_size ts a.tree, ra.node_there))
    (sym (slot_is ts x.tree x.node rx.tree_there) ∙ (sym e ∙ slot_is ts a.tree a.node ra.tree_there))

module _ (ts : List Elementary) (a : Adjoining) (ra : AdjoiningRules ts a) (nodes : List Node) (unset : (get_or nodes (slot (trees_from 0 ts) a.tree a.node) no_node).constraint ≡ None) where
  apart_from : (xs : List Adjoining) → AllByRecursion (AdjoiningRules ts) xs → AllByRecursion (λ x. is_some (get_or nodes (slot (trees_from 0 ts) x.tree x.node) no_node).constraint ≡ true) xs
      → AllByRecursion (λ x. Apart x a) xs
  apart_from [] rs h = tt
  apart_from (x ∷ xs) rs h = (
    λ t n. nothing
        (let e : slot (trees_from 0 ts) x.tree x.node ≡ slot (trees_from 0 ts) a.tree a.node
        = ap (λ (k : ℕ). slot (trees_from 0 ts) k x.node) t ∙ ap (slot (trees_from 0 ts) a.tree) n in
        let q : is_some (get_or nodes (slot (trees_from 0 ts) x.tree x.node) no_node).constraint ≡ false
        = ap (λ (k : ℕ). is_some (get_or nodes k no_node).constraint) e ∙ ap is_some unset in
        let r = h.0 in
        let z : ◌≡◌ {A = ℕ} 0 1 = cc in z),
    apart_from xs rs.1 h.1,
  )

not_at : (ts : List Elementary) (a : Adjoining) → AdjoiningRules ts a → (xs : List Adjoining) → AllByRecursion (AdjoiningRules ts) xs → AllByRecursion (λ x. Apart x a) xs
    → AllByRecursion (λ x. slot (trees_from 0 ts) a.tree a.node ≡ slot (trees_from 0 ts) x.tree x.node → ⊥) xs
not_at ts a ra [] rs h = tt
not_at ts a ra (x ∷ xs) rs h = (λ e. let p = one_slot ts x a rs.0 ra e in h.0 p.0 p.1, not_at ts a ra xs rs.1 h.1)

-- The step, both ways -------------------------------------------------------------------------------------------------

module _ (ph : Phase) (l w : ℕ) (ts : List Elementary) (xs : List Adjoining) (rs : AllByRecursion (AdjoiningRules ts) xs) where
  abbrev us : List Tree
  us = trees_from 0 ts

  abbrev ns : List Node
  ns = constrain_all (trees_from 0 ts) xs (laid_out ts)

  grown : (a : Adjoining) → with_nodes (reached ph l w ts xs) (set ns (slot us a.tree a.node) (constrained (get_or ns (slot us a.tree a.node) no_node) (constraint_by a))) ≡ reached Adjoinings l w ts (xs ++ (a ∷ []))
  grown a = ap (with_nodes (reached ph l w ts xs)) (sym (constrain_all_more us xs a (laid_out ts)))

  pub one_more : (body : List ℕ) (u : State) → ConstraintTaken (reached ph l w ts xs) body u
      → (a : Adjoining) × (body ≡ body_of a) × AdjoiningRules ts a × AllByRecursion (λ x. Apart x a) xs × (u ≡ reached Adjoinings l w ts (xs ++ (a ∷ [])))
  one_more body u h =
      let t = h.0 in
      let n = h.1 in
      let o = obligation_from h.2 h.3 h.9 in
      let a : Adjoining = record { tree = t; node = n; obligation = o.0; takes = h.3 } in
      let few : t < length ts = omega (arith, length_trees_from 0 ts, h.5) in
      let e = tree_placed 0 ts t few in
      let small : n < size (as_row (tree_at ts t)) = subst (λ (v : Tree). n < v.size) e h.6 in
      let k = kind_placed ts xs t n few small in
      let ra : AdjoiningRules ts a = record {
        tree_there = few;
        node_there = omega (arith, node_size ts t, small);
        adjoinable = subst Adjoinable k h.7;
        can_meet = o.2;
        takes = takes_from ts (label_of_kind (kind_at ts t n)) 0 h.3 (subst (λ (q : Kind). Listed us (label_of_kind q) 0 h.3) k h.10);
      } in (
        a,
        h.4 ∙ ap (λ (p : ℕ). t ∷ (n ∷ (p ∷ h.3))) o.1,
        ra,
        apart_from ts a ra ns h.8 xs rs (all_set us xs (laid_out ts) (all_there ts xs rs)),
        h.11 ∙ (ap (λ (c : Constraint). with_nodes (reached ph l w ts xs) (set ns (slot us t n) (constrained (get_or ns (slot us t n) no_node) c)))
            (ap (λ (p : ℕ). constraint_of p h.3) o.1 ∙ same_constraint a) ∙ grown a),
      )

  pub taken_more : (a : Adjoining) → AdjoiningRules ts a → AllByRecursion (λ x. Apart x a) xs → ConstraintTaken (reached ph l w ts xs) (body_of a) (reached Adjoinings l w ts (xs ++ (a ∷ [])))
  taken_more a ra apart =
      let t = a.tree in
      let n = a.node in
      let e = tree_placed 0 ts t ra.tree_there in
      let small : n < size (as_row (tree_at ts t)) = omega (arith, node_size ts t, ra.node_there) in
      let k = kind_placed ts xs t n ra.tree_there small in (
        t,
        n,
        obligation_byte a.obligation,
        a.takes,
        refl,
        omega (arith, length_trees_from 0 ts, ra.tree_there),
        subst (λ (v : Tree). n < v.size) (sym e) small,
        subst Adjoinable (sym k) ra.adjoinable,
        none_other us xs (laid_out ts) (slot us t n) (not_at ts a ra xs rs apart) (laid_out_bare ts (slot us t n)),
        from_obligation a.obligation a.takes ra.can_meet,
        subst (λ (q : Kind). Listed us (label_of_kind q) 0 a.takes) (sym k) (from_takes ts (label_of_kind (kind_at ts t n)) 0 a.takes ra.takes),
        sym (grown a) ∙ ap (λ (c : Constraint). with_nodes (reached ph l w ts xs) (set ns (slot us t n) (constrained (get_or ns (slot us t n) no_node) c))) (sym (same_constraint a)),
      )
