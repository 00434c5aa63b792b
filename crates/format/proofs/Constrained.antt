-- The constraints of a description, one after the other, and what the table then says of its nodes.
use Rattle.std.proofs.Common.{◌≡◌, ℕ, zero, suc, ◌<◌, true, ◌⊎◌, List, [], ◌∷◌, ◌++◌, length, get_or, set, is_some, Some, None, sym, refl, ap, ◌∙◌, subst, inl, inr, arith, length-set, get_or-set_other, get_or-set_same}
use Rattle.std.proofs.lemmas.Bool.{cases_eq}
use Rattle.std.specs.List.{AllByRecursion}
use Rattle.format.specs.declared.node.Node.{Node}
use Rattle.format.specs.declared.node.Tree.{Tree}
use Rattle.format.specs.declared.node.Constraint.{Constraint}
use Rattle.format.specs.Trees.{Entry, size}
use Rattle.format.specs.Parts.{no_node, slot, constrained}
use Rattle.format.specs.Ends.{bare, bares}
use Rattle.format.specs.Format.{Elementary, as_row, no_entry, tree_at, kind_at, trees_from, laid_out, Adjoining, constrain, constrain_all, constraint_by}
use Rattle.format.proofs.Placed.{slot_is, entry_placed, getD_bares}

abbrev at : List Tree → Adjoining → ℕ
at ts a = slot ts a.tree a.node

pub constrain_all_more : (ts : List Tree) (xs : List Adjoining) (a : Adjoining) (ns : List Node) → constrain_all ts (xs ++ (a ∷ [])) ns ≡ constrain ts a (constrain_all ts xs ns)
constrain_all_more ts [] a ns = refl
constrain_all_more ts (x ∷ xs) a ns = constrain_all_more ts xs a (constrain ts x ns)

pub length_constrain_all : (ts : List Tree) (xs : List Adjoining) (ns : List Node) → length (constrain_all ts xs ns) ≡ length ns
length_constrain_all ts [] ns = refl
length_constrain_all ts (x ∷ xs) ns =
    length_constrain_all ts xs (constrain ts x ns) ∙ length-set ns (at ts x) (constrained (get_or ns (at ts x) no_node) (constraint_by x))

-- constraints change nothing that the file says of a node
bares_set : (ns : List Node) (i : ℕ) (c : Constraint) → bares (set ns i (constrained (get_or ns i no_node) c)) ≡ bares ns
bares_set [] i c = refl
bares_set (v ∷ ns) zero c = refl
bares_set (v ∷ ns) (suc i) c = ap (λ (l : List Entry). bare v ∷ l) (bares_set ns i c)

bares_constrain_all : (ts : List Tree) (xs : List Adjoining) (ns : List Node) → bares (constrain_all ts xs ns) ≡ bares ns
bares_constrain_all ts [] ns = refl
bares_constrain_all ts (x ∷ xs) ns = bares_constrain_all ts xs (constrain ts x ns) ∙ bares_set ns (at ts x) (constraint_by x)

pub kind_placed : (ts : List Elementary) (xs : List Adjoining) (t n : ℕ) → t < length ts → n < size (as_row (tree_at ts t))
    → (get_or (constrain_all (trees_from 0 ts) xs (laid_out ts)) (slot (trees_from 0 ts) t n) no_node).kind ≡ kind_at ts t n
kind_placed ts xs t n h l =
    let us = trees_from 0 ts in
    ap (λ (e : Entry). e.kind)
    (sym (getD_bares (constrain_all us xs (laid_out ts)) (slot us t n))
    ∙ (ap (λ (es : List Entry). get_or es (slot us t n) no_entry) (bares_constrain_all us xs (laid_out ts))
    ∙ (ap (λ (i : ℕ). get_or (bares (laid_out ts)) i no_entry) (slot_is ts t n h) ∙ entry_placed ts t n h l)))

-- Setting a constraint within the table leaves it set; elsewhere nothing changes.
set_there : (ns : List Node) (i : ℕ) (c : Constraint) → i < length ns → (get_or (set ns i (constrained (get_or ns i no_node) c)) i no_node).constraint ≡ Some c
set_there ns i c h = ap (λ (v : Node). v.constraint) (get_or-set_same ns i (constrained (get_or ns i no_node) c) no_node h)

set_elsewhere : (ns : List Node) (i j : ℕ) (c : Constraint) → (j ≡ i → ⊥) → (get_or (set ns i (constrained (get_or ns i no_node) c)) j no_node).constraint ≡ (get_or ns j no_node).constraint
set_elsewhere ns i j c ne = ap (λ (v : Node). v.constraint) (get_or-set_other ns i j (constrained (get_or ns i no_node) c) no_node ne)

-- what is set stays set
stays_set : (ts : List Tree) (xs : List Adjoining) (ns : List Node) (i : ℕ) → i < length ns → is_some (get_or ns i no_node).constraint ≡ true
    → is_some (get_or (constrain_all ts xs ns) i no_node).constraint ≡ true
stays_set ts [] ns i l h = h
stays_set ts (x ∷ xs) ns i l h =
    stays_set ts xs (constrain ts x ns) i (omega (arith, length-set ns (at ts x) (constrained (get_or ns (at ts x) no_node) (constraint_by x)))) (one (cases_eq i (at ts x)))
  where
    one : (i ≡ at ts x) ⊎ (i ≡ at ts x → ⊥) → is_some (get_or (constrain ts x ns) i no_node).constraint ≡ true
    one (inl e) = ap is_some (subst (λ (k : ℕ). (get_or (constrain ts x ns) k no_node).constraint ≡ Some (constraint_by x)) (sym e) (set_there ns (at ts x) (constraint_by x) (omega (arith, e))))
    one (inr ne) = ap is_some (set_elsewhere ns (at ts x) i (constraint_by x) ne) ∙ h

-- every constraint of the list is set
pub all_set : (ts : List Tree) (xs : List Adjoining) (ns : List Node) → AllByRecursion (λ x. at ts x < length ns) xs → AllByRecursion (λ x. is_some (get_or (constrain_all ts xs ns) (at ts x) no_node).constraint ≡ true) xs
all_set ts [] ns h = tt
all_set ts (x ∷ xs) ns h =
    let long = length-set ns (at ts x) (constrained (get_or ns (at ts x) no_node) (constraint_by x)) in (
      stays_set ts xs (constrain ts x ns) (at ts x) (omega (arith, long, h.0)) (ap is_some (set_there ns (at ts x) (constraint_by x) h.0)),
      all_set ts xs (constrain ts x ns) (moved xs h.1),
    )
  where
    moved : (ys : List Adjoining) → AllByRecursion (λ y. at ts y < length ns) ys → AllByRecursion (λ y. at ts y < length (constrain ts x ns)) ys
    moved [] q = tt
    moved (y ∷ ys) q = (omega (arith, length-set ns (at ts x) (constrained (get_or ns (at ts x) no_node) (constraint_by x)), q.0), moved ys q.1)

-- and no other
pub none_other : (ts : List Tree) (xs : List Adjoining) (ns : List Node) (i : ℕ) → AllByRecursion (λ x. i ≡ at ts x → ⊥) xs → (get_or ns i no_node).constraint ≡ None
    → (get_or (constrain_all ts xs ns) i no_node).constraint ≡ None
none_other ts [] ns i h e = e
none_other ts (x ∷ xs) ns i h e = none_other ts xs (constrain ts x ns) i h.1 (set_elsewhere ns (at ts x) i (constraint_by x) h.0 ∙ e)
