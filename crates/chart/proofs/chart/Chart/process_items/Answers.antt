use Rattle.std.proofs.Common.{◌-◌, sym, ◌∙◌}
use Rattle.chart.specs.Drawn.{contents_of, room_in}
use Rattle.chart.specs.Charts.{working_in}
use Rattle.chart.proofs.Works.{worked_stop, work_on, came_on}
use Rattle.chart.proofs.chart.Chart.process_items.Goals as goal

pub returns-then-not-goes_on : goal.returns-then-not-goes_on
returns-then-not-goes_on g c = record {
  work = record {
    grown = c.loop.invariant.grown;
    run = sym (c.loop.invariant.work ∙ worked_stop (contents_of c.args.self.now.store) (g.S.Source.meaning c.args.short.now.source.now) (room_in c.args.self.now.store) (c.args.budget - c.loop.counter) (working_in c.loop.self) (sym c.if-not-goes_on.ensures));
  };
  last = c.loop.invariant.last;
}

pub loop-preserved : goal.loop-preserved
loop-preserved g c =
    let w = work_on (g.S.Source.meaning c.args.short.now.source.now) c.args.self.now.store c.loop.self.store c.process_item.new.self c.args.self.now.processed c.loop.self.processed c.args.budget c.loop.counter
    c.loop-test.true c.loop.invariant.grown c.loop.invariant.work (sym c.if-not-goes_on.ensures) c.process_item.ensures in
    record { grown = w.0; work = w.1; last = c.loop.invariant.last }

pub invariant_of-self-clause-came : goal.invariant_of-self-clause-came
invariant_of-self-clause-came g c =
    came_on (g.S.Source.meaning c.args.short.now.source.now) c.loop.self.store c.process_item.new.self c.loop.self.processed (sym c.if-not-goes_on.ensures) c.process_item.ensures c.loop.self.came
