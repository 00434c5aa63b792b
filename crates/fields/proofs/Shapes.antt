-- What the code's tests on the nodes of one tree say of its judgement.
use Rattle.std.proofs.Common.{◌≡◌, ℕ, Bool, true, false, cond, List, [], ◌∷◌, Some, None, Ok, Err, Option, Result, sym, refl, ap, ◌∙◌}
use Rattle.format.specs.declared.node.Kind.TheVariants.{Inner, Word, Empty, Foot}
use Rattle.format.specs.declared.node.Node.{Node}
use Rattle.format.specs.declared.node.Form.{Form}
use Rattle.format.specs.declared.fault.Rule.TheVariants as broken
use Rattle.format.specs.Trees.{Row, none, node, Entry, flatten, plant, alone, lay}
use Rattle.format.specs.Judge.{refusal, arities, one_tree, inner_root, feet_right, root_label, judge_feet, judge_shape}
use Rattle.format.specs.Ends.{bares, freshes}
use Rattle.fields.specs.Reading.{judge_nodes}
use Rattle.format.proofs.Planted.{flatten_plant}
use Rattle.format.proofs.Laying.{bares_lay}
use Rattle.format.specs.Parts.{feet}

pub bares_freshes : (es : List Entry) → bares (freshes es) ≡ es
bares_freshes [] = refl
bares_freshes (e ∷ es) = ap (λ (l : List Entry). e ∷ l) (bares_freshes es)

pub fresh_again : (ns : List Node) (es : List Entry) → ns ≡ freshes es → ns ≡ freshes (bares ns)
fresh_again ns es h = h ∙ ap freshes (sym (ap bares h ∙ bares_freshes es))

one_tree_is : (b : Bool) (o : Option Row) (r : Row) → cond b (inner_root (alone o)) None ≡ Some r → o ≡ Some r
one_tree_is false o r h = cc
one_tree_is true None r h = cc
one_tree_is true (Some none) r h = cc
one_tree_is true (Some (node (Inner l) kids none)) r h = h
one_tree_is true (Some (node (Word w) kids none)) r h = cc
one_tree_is true (Some (node Empty kids none)) r h = cc
one_tree_is true (Some (node (Foot l) kids none)) r h = cc
one_tree_is true (Some (node k kids (node m a b))) r h = cc

pub one_tree_plants : (es : List Entry) (r : Row) → one_tree es ≡ Some r → flatten r ≡ es
one_tree_plants es r h = flatten_plant es r (one_tree_is (arities es) (plant es) r h)

nodes_fine : (o : Result (List Entry) ℕ) (es : List Entry) → judge_nodes o ≡ Ok es → o ≡ Ok es
nodes_fine (Ok fs) es h = let e : fs ≡ es = cc in ap Ok e
nodes_fine (Err n) es h = cc

module _ (f : Form) (o : Result (List Entry) ℕ) (es : List Entry) (ns : List Node) (fine : judge_nodes o ≡ Ok es) (same : ns ≡ freshes es) where
  entries_are : bares ns ≡ es
  entries_are = ap bares same ∙ bares_freshes es

  judged_by : judge_shape f o ≡ judge_feet f es (one_tree es)
  judged_by = ap (judge_shape f) (nodes_fine o es fine)

  pub no_shape : one_tree (bares ns) ≡ None → judge_shape f o ≡ Err (refusal broken.Shape 0)
  no_shape h = judged_by ∙ ap (judge_feet f es) (ap one_tree (sym entries_are) ∙ h)

  pub feet_tested : (b : Bool) (l : ℕ) (r : Row) (ms : List Node) → one_tree (bares ns) ≡ Some r → root_label r ≡ l → ms ≡ lay 0 r
      → b ≡ feet_right f l (feet (bares ms)) → judge_shape f o ≡ cond b (Ok r) (Err (refusal broken.Foot 0))
  feet_tested b l r ms h label laid e =
      let t : one_tree es ≡ Some r = ap one_tree (sym entries_are) ∙ h in
      let bs : bares ms ≡ es = ap bares laid ∙ (bares_lay 0 r ∙ one_tree_plants es r t) in
      judged_by ∙ (ap (judge_feet f es) t
      ∙ ap (λ (q : Bool). cond q (Ok r) (Err (refusal broken.Foot 0)))
      (ap (λ (n : ℕ). feet_right f n (feet es)) label ∙ (ap (λ (q : List Entry). feet_right f l (feet q)) (sym bs) ∙ sym e)))
