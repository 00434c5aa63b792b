use Rattle.std.proofs.Common.{◌≡◌, suc, ◌-◌, refl, ap, arith}
use Rattle.walk.specs.Stacks.{paused}
use Rattle.walk.proofs.Goings.{going_resume}
use Rattle.walk.proofs.walking.Walking.resume.Goals as goal

pub returns-then-self-eq0 : goal.returns-then-self-eq0
unfolding paused
returns-then-self-eq0 c = ap (paused c.args.self.now.stack.now) c.if-self-eq0.true

pub invariant_of-self : goal.invariant_of-self
invariant_of-self c =
    let w = c.args.self.now in
    record { going = going_resume w.going (omega arith) }

pub returns : goal.returns
unfolding paused
returns c =
    let s = c.args.self.now.stack.now in
    let k = c.args.self.now.waits in
    let o : suc (k - 1) ≡ k = omega arith in
    record {
      grammar = refl;
      entries = refl;
      depth = refl;
      ahead = ap (paused s) o;
    }
