use Rattle.std.proofs.Common.{rules, ◌≡◌, Ok, length, take, vec_items, ap, ◌∙◌, arith}
use Rattle.std.proofs.lemmas.Grind.{common_steps}
use Rattle.std.specs.Vec.{with_items}
use Rattle.distinct.specs.Adding.{answer_in}
use Rattle.distinct.specs.Runs.{has}
use Rattle.distinct.specs.Lists.{records}
use Rattle.distinct.specs.declared.Added.TheVariants.{Held}
use Rattle.distinct.proofs.Adds.{held_has}
use Rattle.distinct.proofs.list.DistinctList.add.Goals as goal

-- what is the same as the held record was held before
pub returns-in-Held-clause-gains : goal.returns-in-Held-clause-gains
returns-in-Held-clause-gains g c =
    let l = c.args.self.now in
    let s = g.R.Same.alike in
    let x = c.args.offered in
    let cap = length (vec_items l.memory) in
    let says : Ok (Held c.in-Held.number) ≡ answer_in s cap (records l) x = search rules in
    let kept : take l.held (with_items l.memory c.add.new.memory).items ≡ take l.held (vec_items l.memory) = grind (arith, common_steps) in
    λ y. ap (λ z. has s z y) kept ∙ held_has s g.met.R.Same.transitive (records l) x cap c.in-Held.number says y
