use Rattle.std.proofs.Common.{[], ◌∷◌, vec_items, refl, arith, ltb-false, ne_eqb}
use Rattle.std.proofs.lemmas.Slice.{pushed}
use Rattle.showchart.proofs.Words.{one_more}
use Rattle.showchart.proofs.sentence.first.Goals as goal

pub loop-rest-preserved : goal.loop-rest-preserved
loop-rest-preserved c =
    one_more c.args.body.now (vec_items c.loop-rest.words) (vec_items c.push.new.self) c.loop-rest.rest.now c.pair-word.result
    (omega (arith, ltb-false)) c.loop-rest.invariant c.pair-word.ensures (ne_eqb _ _ c.if-word-eq0.false)
    (pushed (c.pair-word.result ∷ []) refl c.in_ok-push.was c.push.ensures.items)
