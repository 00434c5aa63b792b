-- Every tree of a table has its nodes in it, also after one more tree and after a change of nodes.
use Rattle.std.proofs.Common.{◌≡◌, ℕ, ◌+◌, ◌<◌, ◌≤◌, List, [], ◌∷◌, ◌++◌, length, get_or, sym, ap, ◌∙◌, subst, arith, length-append}
use native.Mathlib.Decide.{dec_lt}
use lib.ListN.{get_or-append}
use lib.Seq.{get_or-append_seam}
use Rattle.format.specs.declared.node.Node.{Node}
use Rattle.format.specs.declared.node.Tree.{Tree}
use Rattle.format.specs.Parts.{no_tree}
use Rattle.format.specs.Tables.{Fit}

-- as many nodes or more
pub fit_longer : (ts : List Tree) (ns ms : List Node) → length ns ≤ length ms → Fit ts ns → Fit ts ms
fit_longer ts ns ms h fit k l = let w = fit k l in omega arith

-- one more tree, with its nodes behind all others
pub fit_more : (ts : List Tree) (ns ms : List Node) (t : Tree) → t.start + t.size ≤ length ms → length ns ≤ length ms → Fit ts ns → Fit (ts ++ (t ∷ [])) ms
fit_more ts ns ms t end long fit k h = at (dec_lt k (length ts))
  where
    at : Dec (k < length ts) → (get_or (ts ++ (t ∷ [])) k no_tree).start + (get_or (ts ++ (t ∷ [])) k no_tree).size ≤ length ms
    at (yes in-front) =
        let w = fit k in-front in
        subst (λ (u : Tree). u.start + u.size ≤ length ms) (sym (get_or-append ts (t ∷ []) no_tree k in-front)) (omega arith)
    at (no past) =
        let k-is : length ts ≡ k = omega (arith, length-append ts (t ∷ [])) in
        let e : get_or (ts ++ (t ∷ [])) k no_tree ≡ t = ap (λ (n : ℕ). get_or (ts ++ (t ∷ [])) n no_tree) (sym k-is) ∙ get_or-append_seam ts t [] no_tree in
        subst (λ (u : Tree). u.start + u.size ≤ length ms) (sym e) end
