use Rattle.std.proofs.Common.{take}
use Rattle.steps.specs.Orders.{each}
use Rattle.steps.specs.Conclusions.{adjoin_complete}
use Rattle.chart.specs.Drawn.{Drawn, contents_of, held_in}
use Rattle.chart.specs.Lasts.{pairs_with, thirds_with}
use Rattle.chart.proofs.store.Store.adjoin_triples.Given as goal

abbrev pub invariant-loop-a : goal.invariant-loop-a
invariant-loop-a l =
    Drawn l.initial.self l.self (each (λ a x. pairs_with (adjoin_complete (contents_of l.initial.self) a x) (held_in l.initial.self) l.last) 0 (take l.a (held_in l.initial.self)))

abbrev pub invariant-loop-b : goal.invariant-loop-b
invariant-loop-b l =
    Drawn l.initial.self l.self (each (thirds_with (adjoin_complete (contents_of l.initial.self)) (held_in l.initial.self) l.last) 0 (take l.b (held_in l.initial.self)))
