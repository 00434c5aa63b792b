use Rattle.std.proofs.Common.{◌-◌, [], ◌∷◌, ◌++◌, length, take, refl, arith}
use Rattle.format.proofs.Walks.{shorter_now}
use Rattle.showchart.proofs.Cutting.{passed, cut_on, passed_on}
use Rattle.showchart.proofs.stream.cut.Goals as goal

pub loop-field-init : goal.loop-field-init
loop-field-init c = (omega arith, passed c.args.bytes.now [] c.args.bytes.now refl, ([], refl))

pub loop-field-smaller : goal.loop-field-smaller
loop-field-smaller c = shorter_now c.loop-field.rest.now c.in-Some.field.tag c.in-Some.field.body.now c.in-Some.field.rest.now c.in-Some.ensures

pub loop-field-preserved : goal.loop-field-preserved
loop-field-preserved c =
    let bytes = c.args.bytes.now in
    let rest = c.loop-field.rest.now in
    let tag = c.in-Some.field.tag in
    let body = c.in-Some.field.body.now in
    let later = c.in-Some.field.rest.now in
    let whole = c.in-Some.ensures in
    let fs = c.loop-field.invariant.2.0 in (
      omega (arith, c.loop-field.invariant.0, shorter_now rest tag body later whole),
      cut_on bytes (take (length bytes - length rest) bytes) rest tag body later c.loop-field.invariant.1 whole,
      (fs ++ (record { tag = tag; body = body } ∷ []), passed_on fs bytes rest tag body later c.loop-field.invariant.2.1 whole c.if-field-eq-WORDS.false),
    )
