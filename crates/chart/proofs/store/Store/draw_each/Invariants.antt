use Rattle.std.proofs.Common.{◌≡◌, ℕ, ◌<◌, Option}
use Rattle.std.specs.Option.{option_to_list}
use Rattle.steps.specs.declared.item.Item.{Item}
use Rattle.steps.specs.Orders.{upto}
use Rattle.chart.specs.Drawn.{Drawn}
use Rattle.chart.proofs.store.Store.draw_each.Given as goal

abbrev pub invariant-loop-k : goal.invariant-loop-k
invariant-loop-k g l = (f : ℕ → Option Item) → ((k : ℕ) (r : _) → k < l.n → goal.F-post g l.conclude k r → r ≡ f k)
    → Drawn l.initial.self l.self (upto l.k (λ k. option_to_list (f k)))
