-- A tree field is taken exactly when its body is the preorder of one tree by the rules.
use Rattle.std.proofs.Common.{◌≡◌, ℕ, suc, ◌+◌, ◌/◌, ◌%◌, Bool, true, false, cond, eqb, ltb, leb, List, length, Some, None, Ok, Err, Option, Result, sym, refl, ap, ◌∙◌, subst, arith, length-append, ltb-true, eqb-true, leb-true}
use Rattle.std.proofs.lemmas.Bool.{and_parts, cond-true}
use Rattle.format.specs.declared.node.Kind.TheVariants.{Inner, Word, Empty, Foot}
use Rattle.format.specs.declared.node.Form.{Form}
use Rattle.format.specs.declared.fault.Refusal.{Refusal}
use Rattle.format.specs.declared.fault.Rule.TheVariants as broken
use Rattle.format.specs.Trees.{Row, none, node, size, Entry, flatten, plant, alone}
use Rattle.format.specs.Judge.{State, refuse, refusal, entries, arities, one_tree, inner_root, feet_right, root_label, judge_feet, judge_shape, judge_tree, added, add_tree, whole_nodes, room}
use Rattle.format.specs.Format.{Elementary, as_row, preorder, Spells, Named}
use Rattle.std.specs.List.{AllByRecursion}
use Rattle.format.proofs.Planted.{plant_flatten, flatten_plant}
use Rattle.format.proofs.Cases.{nothing, never, passes}
use Rattle.format.proofs.Exact.{entries_spell, spelled_entries, arities_are, are_arities, feet_are, are_feet}
use Rattle.format.specs.Parts.{feet}
use Rattle.format.proofs.Taken.{TreeBody, TreeExact}
use Rattle.format.proofs.TreeJudged.{tree_judged}

length_flatten : (r : Row) → length (flatten r) ≡ size r
length_flatten none = refl
length_flatten (node k kids rest) =
    ap suc (length-append (flatten kids) (flatten rest) ∙ (let a = length_flatten kids in let b = length_flatten rest in omega arith))

abbrev Rooted : List Entry → Row → Type 0
Rooted es r = (l : ℕ) × (kids : Row) × (r ≡ node (Inner l) kids none) × (arities es ≡ true) × (flatten r ≡ es)

rooted : (es : List Entry) (r : Row) → one_tree es ≡ Some r → Rooted es r
rooted es r h = at (arities es) refl (plant es) refl h
  where
    at : (b : Bool) → arities es ≡ b → (o : Option Row) → plant es ≡ o → cond b (inner_root (alone o)) None ≡ Some r → Rooted es r
    at false e o p h = nothing (let z : ◌≡◌ {A = ℕ} 0 1 = cc in z)
    at true e None p h = nothing (let z : ◌≡◌ {A = ℕ} 0 1 = cc in z)
    at true e (Some none) p h = nothing (let z : ◌≡◌ {A = ℕ} 0 1 = cc in z)
    at true e (Some (node (Inner l) kids none)) p h =
        let r-is : r ≡ node (Inner l) kids none = cc in (l, kids, r-is, e, flatten_plant es r (p ∙ h))
    at true e (Some (node (Word w) kids none)) p h = nothing (let z : ◌≡◌ {A = ℕ} 0 1 = cc in z)
    at true e (Some (node Empty kids none)) p h = nothing (let z : ◌≡◌ {A = ℕ} 0 1 = cc in z)
    at true e (Some (node (Foot l) kids none)) p h = nothing (let z : ◌≡◌ {A = ℕ} 0 1 = cc in z)
    at true e (Some (node k kids (node m a b))) p h = nothing (let z : ◌≡◌ {A = ℕ} 0 1 = cc in z)

-- what a judgement of a tree that passes came from
shape_from : (f : Form) (o : Result (List Entry) ℕ) (r : Row) → judge_shape f o ≡ Ok r → (es : List Entry) × (o ≡ Ok es) × (one_tree es ≡ Some r) × (feet_right f (root_label r) (feet es) ≡ true)
shape_from f (Err n) r h = nothing (let z : ◌≡◌ {A = ℕ} 0 1 = cc in z)
shape_from f (Ok es) r h = at (one_tree es) refl h
  where
    fed : (b : Bool) (q : Row) → feet_right f (root_label q) (feet es) ≡ b → ◌≡◌ {A = Result Row Refusal} (cond b (Ok q) (refuse broken.Foot)) (Ok r) → one_tree es ≡ Some q
        → (es' : List Entry) × (◌≡◌ {A = Result (List Entry) ℕ} (Ok es) (Ok es')) × (one_tree es' ≡ Some r) × (feet_right f (root_label r) (feet es') ≡ true)
    fed true q e h t =
        let q-is : q ≡ r = cc in
        (es, refl, t ∙ ap Some q-is, ap (λ (x : Row). feet_right f (root_label x) (feet es)) (sym q-is) ∙ e)
    fed false q e h t = nothing (let z : ◌≡◌ {A = ℕ} 0 1 = cc in z)

    at : (q : Option Row) → one_tree es ≡ q → judge_feet f es q ≡ Ok r
        → (es' : List Entry) × (◌≡◌ {A = Result (List Entry) ℕ} (Ok es) (Ok es')) × (one_tree es' ≡ Some r) × (feet_right f (root_label r) (feet es') ≡ true)
    at None e h = nothing (let z : ◌≡◌ {A = ℕ} 0 1 = cc in z)
    at (Some q) e h = fed (feet_right f (root_label q) (feet es)) q refl h e

added_from : (s u : State) (f : Form) (j : Result Row Refusal) → added s f j ≡ Ok u → (r : Row) × (j ≡ Ok r) × (add_tree s f r ≡ u)
added_from s u f (Ok r) h = (r, refl, cc)
added_from s u f (Err e) h = never e u h

abbrev Taken : State → State → Form → List ℕ → Type 0
Taken s u f body = (t : Elementary) × (t.form ≡ f) × TreeBody s t body × (u ≡ add_tree s f (as_row t))

only_trees : (s u : State) (f : Form) (body : List ℕ) → judge_tree s f body ≡ Ok u → Taken s u f body
only_trees s u f body h =
    let j = judge_shape f (entries s.labels s.words 0 body) in
    let p = passes (whole_nodes body) (cond (room s body) (added s f j) (refuse broken.Room)) (refusal broken.Body 0) u h in
    let q = passes (room s body) (added s f j) (refusal broken.Room 0) u p.1 in
    let fours = eqb-true (length body % 4) 0 (and_parts (ltb 0 (length body)) (eqb (length body % 4) 0) p.0).1 in
    let w = and_parts (ltb (length s.trees) 64) (leb (length s.nodes + length body / 4) 256) q.0 in
    let few = ltb-true (length s.trees) 64 w.0 in
    let fit = leb-true (length s.nodes + length body / 4) 256 w.1 in
    let a = added_from s u f j q.1 in
    let b = shape_from f (entries s.labels s.words 0 body) a.0 a.1 in
    let es = b.0 in
    let k = rooted es a.0 b.2 in
    let sp = entries_spell s.labels s.words 0 body es fours b.1 in
    let long = (spelled_entries s.labels s.words 0 es body sp.0 sp.1).1 in
    let row : Row = node (Inner k.0) k.1 none in
    let pre : flatten row ≡ es = ap flatten (sym k.2) ∙ k.4 in
    let size_is : length es ≡ size row = ap length (sym pre) ∙ length_flatten row in (
      record { form = f; label = k.0; children = k.1 },
      refl,
      record {
        rules = record {
          named = subst (λ (l : List Entry). AllByRecursion (λ e. Named s.labels s.words e.kind) l) (sym pre) sp.1;
          counted = arities_are (flatten row) (ap arities pre ∙ k.3);
          footed = feet_are f k.0 (feet (flatten row)) (ap (λ (l : List Entry). feet_right f k.0 (feet l)) pre ∙ (ap (λ (x : Row). feet_right f (root_label x) (feet es)) (sym k.2) ∙ b.3));
        };
        bytes = subst (λ (l : List Entry). Spells l body) (sym pre) sp.0;
        trees_fit = few;
        nodes_fit = omega arith;
      },
      sym a.2 ∙ ap (add_tree s f) k.2,
    )

all_trees : (s : State) (t : Elementary) (body : List ℕ) → TreeBody s t body → judge_tree s t.form body ≡ Ok (add_tree s t.form (as_row t))
all_trees s t body h =
    let es = preorder t in
    let sp = spelled_entries s.labels s.words 0 es body h.bytes h.rules.named in
    let long = sp.1 in
    let size_is = length_flatten (as_row t) in
    let few = h.trees_fit in
    let fit = h.nodes_fit in
    let one : one_tree es ≡ Some (as_row t)
    = cond-true (arities es) (inner_root (alone (plant es))) None (are_arities es h.rules.counted) ∙ ap (λ (o : Option Row). inner_root (alone o)) (plant_flatten (as_row t)) in
    let shaped : judge_shape t.form (entries s.labels s.words 0 body) ≡ Ok (as_row t)
    = ap (judge_shape t.form) sp.0 ∙ (ap (judge_feet t.form es) one
    ∙ cond-true (feet_right t.form t.label (feet es)) (Ok (as_row t)) (refuse broken.Foot) (are_feet t.form t.label (feet es) h.rules.footed)) in
    tree_judged s t.form body (omega arith) (omega arith) few (omega arith) ∙ ap (added s t.form) shaped

pub tree_exact : TreeExact
tree_exact s u f body = (
  only_trees s u f body,
  λ t e h. subst (λ (g : Form). judge_tree s g body ≡ Ok (add_tree s g (as_row t))) e (all_trees s t body h),
)
