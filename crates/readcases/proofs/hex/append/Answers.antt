use Rattle.std.proofs.Common.{◌≡◌, ℕ, suc, ◌+◌, ◌-◌, List, ◌++◌, vec_items, refl, ap, ◌∙◌, append_assoc, arith}
use Rattle.std.proofs.lemmas.Slice.{pushed}
use Rattle.readcases.specs.Hex.{copies}
use Rattle.readcases.proofs.hex.append.Goals as goal

pub loop-preserved : goal.loop-preserved
loop-preserved c =
    let part = c.args.part.now in
    let held = vec_items c.loop.bytes in
    let left = c.args.times - (c.loop.counter + 1) in
    let e : suc left ≡ c.args.times - c.loop.counter = omega (arith, c.loop-test.true) in
    ap (λ (l : List ℕ). l ++ copies left part) (pushed part refl c.in_ok-extend_from_slice.was c.extend_from_slice.ensures.items)
    ∙ (append_assoc held part (copies left part) ∙ (ap (λ (n : ℕ). held ++ copies n part) e ∙ c.loop.invariant))
