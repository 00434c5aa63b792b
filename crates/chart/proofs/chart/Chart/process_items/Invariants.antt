use Rattle.std.proofs.Common.{◌≡◌, ◌-◌}
use Rattle.steps.specs.Runs.{worked}
use Rattle.chart.specs.Drawn.{Grown, contents_of, room_in}
use Rattle.chart.specs.Charts.{working_in}
use Rattle.chart.proofs.chart.Chart.process_items.Given as goal

abbrev pub invariant-loop : goal.invariant-loop
invariant-loop g l = record {
  grown : Grown l.initial.self.store l.self.store;
  work : worked (contents_of l.initial.self.store) (g.S.Source.meaning l.short.source.now) (room_in l.initial.self.store) l.budget (working_in l.initial.self)
      ≡ worked (contents_of l.initial.self.store) (g.S.Source.meaning l.short.source.now) (room_in l.initial.self.store) (l.budget - l.counter) (working_in l.self);
  last : l.self.last ≡ l.initial.self.last;
}
