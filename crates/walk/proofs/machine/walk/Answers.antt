use Rattle.std.proofs.Common.{◌≡◌, Some, ◌∙◌, rules, arith}
use Rattle.walk.specs.declared.choice.Choice.TheVariants.{Stay, Adjoin}
use Rattle.walk.proofs.Guides.{chosen_on}
use Rattle.walk.proofs.machine.walk.Goals as goal

pub loop-at-preserved-in-Stay : goal.loop-at-preserved-in-Stay
loop-at-preserved-in-Stay g c =
    let i = c.loop-at.invariant in
    let m = c.enter.ensures in
    let r = rw c.in-Some.is at c.next_choice.ensures in
    let e : c.choose.result ≡ Some Stay = search rules in
    let k = rw e at c.choose.ensures in
    record {
      grammar = m.grammar ∙ (r.grammar ∙ i.grammar);
      room = omega (arith, m.depth, m.entries, r.depth, r.entries, r.left, i.room, k.0);
      led = chosen_on g.G.Guide.holds g.G.Guide.left c.loop-at.walking c.next_choice.new.self c.enter.new.self c.in-Some.at Stay i.grammar i.led r k.1 m;
    }

pub loop-at-preserved : goal.loop-at-preserved
loop-at-preserved g c =
    let i = c.loop-at.invariant in
    let m = c.adjoin.ensures in
    let r = rw c.in-Some.is at c.next_choice.ensures in
    let e : c.choose.result ≡ Some (Adjoin c.in-Adjoin.tree c.in-Adjoin.tag) = search rules in
    let k = rw e at c.choose.ensures in
    record {
      grammar = m.grammar ∙ (r.grammar ∙ i.grammar);
      room = omega (arith, m.depth, m.entries, r.depth, r.entries, r.left, i.room, k.0);
      led = chosen_on g.G.Guide.holds g.G.Guide.left c.loop-at.walking c.next_choice.new.self c.adjoin.new.self c.in-Some.at (Adjoin c.in-Adjoin.tree c.in-Adjoin.tag) i.grammar i.led r k.1 m;
    }
