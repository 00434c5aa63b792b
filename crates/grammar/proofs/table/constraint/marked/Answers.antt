use Rattle.std.proofs.Common.{◌≡◌, ℕ, ◌+◌, ◌<◌, Bool, true, List, length, get_or, drop, set, sym, ap, ◌∙◌, add-one, arith, length-set, drop-cons}
use lib.Seq.{set_out}
use Rattle.grammar.proofs.table.constraint.marked.Goals.{then-tree-lt64, else-tree-lt64}
use Rattle.grammar.proofs.table.constraint.marked.Goals as goal
use Rattle.format.specs.Parts.{mark}

mark_at : (list : List ℕ) (i : ℕ) (s : List Bool) → i < length list → mark (drop (i + 1) list) (set s (get_or list i 0) true) ≡ mark (drop i list) s
mark_at list i s h = ap (λ (n : ℕ). mark (drop n list) (set s (get_or list i 0) true)) (add-one i) ∙ ap (λ (l : List ℕ). mark l s) (sym (drop-cons list i 0 h))

pub loop-tree-preserved : goal.loop-tree-preserved
loop-tree-preserved c =
    let list = c.args.list.now in
    let i = c.loop-tree.tree-index in
    let s = c.loop-tree.set in
    let e : c.if-tree-lt64.set ≡ set s (get_or list i 0) true
    = elim c.if-tree-lt64.branch [ then-tree-lt64 w ↦ w.set-is ∙ ap (λ (t : ℕ). set s t true) c.from-tree.ensures | else-tree-lt64 w ↦ w.set-is ∙ sym (set_out s (get_or list i 0) true (omega (arith, c.loop-tree.invariant.0))) ] in (
      ap length e ∙ (length-set s (get_or list i 0) true ∙ c.loop-tree.invariant.0),
      ap (mark (drop (i + 1) list)) e ∙ (mark_at list i s c.loop-tree-test.true ∙ c.loop-tree.invariant.1),
    )
