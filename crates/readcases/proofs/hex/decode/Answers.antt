use Rattle.std.proofs.Common.{[], ◌∷◌, vec_items, sym, refl, ◌∙◌, arith}
use Rattle.std.proofs.lemmas.Slice.{pushed}
use Rattle.readcases.proofs.Decoding.{one_more}
use Rattle.readcases.proofs.hex.decode.Goals as goal

pub loop-rest-preserved : goal.loop-rest-preserved
loop-rest-preserved c =
    one_more c.args.digits.now (vec_items c.loop-rest.bytes) (vec_items c.push.new.self) c.loop-rest.rest.now c.in_ok-byte.byte
    (omega arith) c.loop-rest.invariant (sym c.in_ok-byte.ensures.ok_part ∙ c.byte.ensures)
    (pushed (c.in_ok-byte.byte ∷ []) refl c.in_ok-push.was c.push.ensures.items)
