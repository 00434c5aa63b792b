use Rattle.std.proofs.Common.{◌≡◌, ℕ, true, false, Err, Option, Result, sym, ap, ◌∙◌, subst, arith, ok_or}
use Rattle.std.proofs.lemmas.List.{with_items_is}
use Rattle.std.proofs.lemmas.Result.{err_from_is_err_and}
use Rattle.fields.specs.declared.stop.Stop.{Stop}
use Rattle.format.specs.declared.fault.Rule.{Rule}
use Rattle.format.specs.declared.fault.Rule.TheVariants as broken
use Rattle.format.specs.Judge.{entries, judge_shape, one_tree}
use Rattle.format.specs.Ends.{bares}
use Rattle.fields.specs.Reading.{Agrees, Laid, Shaped}
use Rattle.fields.proofs.Shapes.{fresh_again, no_shape, feet_tested}
use Rattle.fields.proofs.tree.read_tree.Goals as goal

pub shape-requires : goal.shape-requires
shape-requires c =
    let r = c.in_ok-nodes.ensures in
    fresh_again c.as_mut_slice.result.now r.0 (c.as_mut_slice.ensures.value ∙ r.2)

pub returns-in_err-label : goal.returns-in_err-label
returns-in_err-label c =
    let r = c.in_ok-nodes.ensures in
    let d = entries c.args.header.labels c.args.header.words 0 c.args.body.now in
    let ms = c.as_mut_slice.result.now in
    let p = err_from_is_err_and c.from_residual-in_err-label.result c.from_residual-in_err-label.ensures.1 in
    let none = subst (Shaped (one_tree (bares ms)) c.shape.new.nodes) c.in_err-label.ensures.ok_part c.shape.ensures in
    let named : ◌≡◌ {A = Result ℕ Rule} (Err c.in_err-label.field-0.0) (Err broken.Shape)
    = c.in_err-label.ensures.value ∙ ap (λ (o : Option ℕ). ok_or o broken.Shape) c.in_err-label.ensures.ok_part in
    let rule : c.in_err-label.field-0.0 ≡ broken.Shape = cc in
    rw (p.1, p.2, rule) (no_shape c.args.form d r.0 ms r.1 (c.as_mut_slice.ensures.value ∙ r.2) none)

pub returns-then-not-feet_right : goal.returns-then-not-feet_right
returns-then-not-feet_right c =
    let r = c.in_ok-nodes.ensures in
    let d = entries c.args.header.labels c.args.header.words 0 c.args.body.now in
    let ms = c.as_mut_slice.result.now in
    let s = subst (Shaped (one_tree (bares ms)) c.shape.new.nodes) c.in_ok-label.ensures.ok_part c.shape.ensures in
    let back = with_items_is c.in_ok-nodes.nodes c.shape.new.nodes (omega (arith, c.shape.auto.nodes, c.as_mut_slice.ensures.len)) in
    subst (λ (s : Stop). Agrees (judge_shape c.args.form d) Laid (Err s)) (sym c.into.ensures)
    (feet_tested c.args.form d r.0 ms r.1 (c.as_mut_slice.ensures.value ∙ r.2) false c.in_ok-label.label s.0
    c.as_slice.result.now s.1 s.2 (c.as_slice.ensures.value ∙ (back ∙ s.3)) c.if-not-feet_right.ensures)

pub returns : goal.returns
returns c =
    let r = c.in_ok-nodes.ensures in
    let d = entries c.args.header.labels c.args.header.words 0 c.args.body.now in
    let ms = c.as_mut_slice.result.now in
    let s = subst (Shaped (one_tree (bares ms)) c.shape.new.nodes) c.in_ok-label.ensures.ok_part c.shape.ensures in
    let back = with_items_is c.in_ok-nodes.nodes c.shape.new.nodes (omega (arith, c.shape.auto.nodes, c.as_mut_slice.ensures.len)) in (
      s.0,
      feet_tested c.args.form d r.0 ms r.1 (c.as_mut_slice.ensures.value ∙ r.2) true c.in_ok-label.label s.0
          c.as_slice.result.now s.1 s.2 (c.as_slice.ensures.value ∙ (back ∙ s.3)) c.if-not-feet_right.ensures,
      (sym s.2, back ∙ s.3),
    )
