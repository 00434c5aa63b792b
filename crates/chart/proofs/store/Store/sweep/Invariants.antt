use Rattle.std.proofs.Common.{◌≡◌, ℕ, Option, take}
use Rattle.std.specs.Option.{option_to_list}
use Rattle.steps.specs.declared.item.Item.{Item}
use Rattle.steps.specs.Orders.{each}
use Rattle.chart.specs.Drawn.{Grown, Drawn, held_in}
use Rattle.chart.proofs.store.Store.sweep.Given as goal

abbrev pub invariant-loop-number : goal.invariant-loop-number
invariant-loop-number g l = record {
  grown : Grown l.initial.self l.self;
  drawn : (f : ℕ → Item → Option Item) → ((p : _) (r : _) → goal.F-post g l.step p r → r ≡ f p.number p.item.now)
      → Drawn l.initial.self l.self (each (λ k x. option_to_list (f k x)) 0 (take l.number (held_in l.initial.self)));
}
