-- One more field of a draft, by the tests that the code makes.
use Rattle.std.proofs.Common.{◌≡◌, ℕ, ◌+◌, ◌/◌, ◌%◌, ◌<◌, ◌≤◌, List, [], ◌∷◌, ◌++◌, length, Ok, vec_items, sym, ap, ◌∙◌}
use Rattle.format.specs.declared.node.Node.{Node}
use Rattle.format.specs.declared.node.Tree.{Tree}
use Rattle.format.specs.declared.node.Form.{Form}
use Rattle.format.specs.Trees.{Row, size, lay}
use Rattle.format.specs.Judge.{State, entries, judge_shape, judge_tree, added, root_label}
use Rattle.format.proofs.Laying.{length_lay}
use Rattle.format.proofs.TreeJudged.{tree_judged}
use Rattle.fields.specs.Reading.{Laid}
use Rattle.grammar.specs.Tables.{tree_behind}
use Rattle.fields.specs.declared.tree.Planted.{Planted}

-- a tree that was planted is added behind the others
pub tree_is_added : (s : State) (f : Form) (body : List ℕ) → 0 < length body → length body % 4 ≡ 0 → length s.trees < 64 → length s.nodes + length body / 4 ≤ 256
    → (r : Row) (p : Planted) (ts : List Tree) (ns : List Node) → judge_shape f (entries s.labels s.words 0 body) ≡ Ok r → Laid p r
    → ns ≡ s.nodes ++ vec_items p.nodes → ts ≡ s.trees ++ (tree_behind s.nodes f p ∷ [])
    → judge_tree s f body ≡ Ok (record { phase = s.phase; labels = s.labels; words = s.words; trees = ts; nodes = ns })
tree_is_added s f body some fours few fit r p ts ns h laid n-is t-is =
    let len : size r ≡ length (vec_items p.nodes) = sym (ap length laid.1 ∙ length_lay 0 r) in
    let t-end : s.trees ++ (record { form = f; label = root_label r; start = length s.nodes; size = size r } ∷ []) ≡ ts
    = ap (λ (n : ℕ). s.trees ++ (record { form = f; label = root_label r; start = length s.nodes; size = n } ∷ [])) len
    ∙ (ap (λ (l : ℕ). s.trees ++ (record { form = f; label = l; start = length s.nodes; size = length (vec_items p.nodes) } ∷ [])) (sym laid.0) ∙ sym t-is) in
    let n-end : s.nodes ++ lay 0 r ≡ ns = ap (λ (l : List Node). s.nodes ++ l) (sym laid.1) ∙ sym n-is in
    tree_judged s f body some fours few fit ∙ (ap (added s f) h
    ∙ (ap (λ (l : List Tree). Ok (record { phase = s.phase; labels = s.labels; words = s.words; trees = l; nodes = s.nodes ++ lay 0 r })) t-end
    ∙ ap (λ (l : List Node). Ok (record { phase = s.phase; labels = s.labels; words = s.words; trees = ts; nodes = l })) n-end))
