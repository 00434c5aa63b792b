-- Setting a node's constraint, by the tests that the code makes.
use Rattle.std.proofs.Common.{◌≡◌, ℕ, ◌<◌, Bool, true, false, cond, ◌&&◌, ltb, List, length, get_or, set, Some, None, Ok, Err, sym, refl, ap, ◌∙◌, arith, length-set, get_or-set_other, get_or-set_same, ltb-true}
use Rattle.format.specs.declared.node.Node.{Node}
use Rattle.format.specs.declared.node.Tree.{Tree}
use Rattle.format.specs.declared.node.Obligation.{Obligation}
use Rattle.format.specs.declared.fault.Rule.{Rule}
use Rattle.format.specs.declared.fault.Rule.TheVariants as broken
use Rattle.format.specs.Parts.{no_tree, no_node, label_of_kind, constrained, slot}
use Rattle.format.specs.Judge.{adjoin, set_constraint, target, open_target, needs_met, listable, constraint_of}
use Rattle.format.specs.Tables.{Fit}
use Rattle.std.proofs.lemmas.Bool.{and_parts}

chosen : (b : Bool) (i j : ℕ) → Some i ≡ cond b (Some j) None → i ≡ j
chosen true i j h = cc
chosen false i j h = cc

-- the node that is found stands at its slot
pub found_slot : (ts : List Tree) (ns : List Node) (t n i : ℕ) → Some i ≡ target ts ns t n → i ≡ slot ts t n
found_slot ts ns t n i h = chosen (ltb t (length ts) && (ltb n (get_or ts t no_tree).size && open_target (get_or ns (slot ts t n) no_node))) i (slot ts t n) h

-- and within a table that every tree has its nodes in
there : (ts : List Tree) (ns : List Node) (t n i : ℕ) (b : Bool) → (ltb t (length ts) && (ltb n (get_or ts t no_tree).size && open_target (get_or ns (slot ts t n) no_node))) ≡ b
    → Some i ≡ cond b (Some (slot ts t n)) None → Fit ts ns → i < length ns
there ts ns t n i false e h fit = absurd cc
there ts ns t n i true e h fit =
    let a = and_parts (ltb t (length ts)) (ltb n (get_or ts t no_tree).size && open_target (get_or ns (slot ts t n) no_node)) e in
    let b = and_parts (ltb n (get_or ts t no_tree).size) (open_target (get_or ns (slot ts t n) no_node)) a.1 in
    let w = fit t (ltb-true t (length ts) a.0) in
    let m = ltb-true n (get_or ts t no_tree).size b.0 in
    let i-is : i ≡ slot ts t n = cc in
    omega arith

pub found_there : (ts : List Tree) (ns : List Node) (t n i : ℕ) → Some i ≡ target ts ns t n → Fit ts ns → i < length ns
found_there ts ns t n i h fit = there ts ns t n i (ltb t (length ts) && (ltb n (get_or ts t no_tree).size && open_target (get_or ns (slot ts t n) no_node))) refl h fit

module _ (ts : List Tree) (ns : List Node) (t n i p : ℕ) (bs : List ℕ) where
  pub not_found : None ≡ target ts ns t n → adjoin ts ns t n p bs ≡ Err broken.Target
  not_found h = ap (set_constraint ts ns p bs) (sym h)

  module _ (found : Some i ≡ target ts ns t n) where
    abbrev then : List Node
    then = set ns i (constrained (get_or ns i no_node) (constraint_of p bs))

    abbrev right : Bool
    right = listable ts (label_of_kind (get_or ns i no_node).kind) 0 bs

    pub needs_not_met : needs_met p bs ≡ false → adjoin ts ns t n p bs ≡ Err broken.List
    needs_not_met h = ap (set_constraint ts ns p bs) (sym found) ∙ ap (λ (q : Bool). cond (q && right) (Ok then) (Err broken.List)) h

    pub by_list : (b : Bool) → needs_met p bs ≡ true → b ≡ right → adjoin ts ns t n p bs ≡ cond b (Ok then) (Err broken.List)
    by_list b h e =
        ap (set_constraint ts ns p bs) (sym found)
        ∙ (ap (λ (q : Bool). cond (q && right) (Ok then) (Err broken.List)) h ∙ ap (λ (q : Bool). cond q (Ok then) (Err broken.List)) (sym e))

-- what the reading of an obligation says of the test
pub refused : (q : Bool) (o : Obligation) (r : Rule) → Err r ≡ cond q (Ok o) (Err broken.List) → (q ≡ false) × (r ≡ broken.List)
refused true o r h = cc
refused false o r h = (refl, cc)

pub taken : (q : Bool) (o u : Obligation) → Ok u ≡ cond q (Ok o) (Err broken.List) → (q ≡ true) × (u ≡ o)
taken true o u h = (refl, cc)
taken false o u h = cc

-- one node has the constraint, and every other is as it was
pub one_set : (ns ms : List Node) (i p : ℕ) (bs : List ℕ) → i < length ns → ms ≡ set ns i (constrained (get_or ns i no_node) (constraint_of p bs))
    → ((get_or ms i no_node).constraint ≡ Some (constraint_of p bs)) × (length ms ≡ length ns) × ((k : ℕ) → (k ≡ i → ⊥) → get_or ms k no_node ≡ get_or ns k no_node)
one_set ns ms i p bs h e =
    let v = constrained (get_or ns i no_node) (constraint_of p bs) in (
      ap (λ (l : List Node). (get_or l i no_node).constraint) e ∙ ap (λ (w : Node). w.constraint) (get_or-set_same ns i v no_node h),
      ap length e ∙ length-set ns i v,
      λ k ne. ap (λ (l : List Node). get_or l k no_node) e ∙ get_or-set_other ns i k v no_node ne,
    )
