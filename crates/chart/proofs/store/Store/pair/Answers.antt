use Rattle.std.proofs.Common.{rules, take, arith}
use Rattle.std.specs.Option.{option_to_list}
use Rattle.steps.specs.Orders.{each}
use Rattle.chart.specs.Drawn.{Drawn, held_in}
use Rattle.chart.proofs.Runs.{paired, unpaired}
use Rattle.chart.proofs.store.Store.pair.Goals.{then-places, else-places}
use Rattle.chart.proofs.store.Store.pair.Goals as goal

pub returns-then-places-2 : goal.returns-then-places-2
returns-then-places-2 g c = λ f h one two.
    let s = c.args.self.now in
    let p = c.args.last in
    let first : Drawn s c.if-places.self (each (λ a x. option_to_list (f a x p.number p.item.now)) 0 (take p.number (held_in s))) = elim c.if-places.branch [
      | then-places w ↦ rw w.self-is (w.sweep.ensures (λ k x. f k x p.number p.item.now) (λ q r e. search (rules, h)))
      | else-places w ↦ rw w.self-is (unpaired s p.number (λ k x. f k x p.number p.item.now) (two w.if-places.false))
    ] in
    paired f s c.if-places.self c.sweep-then-places-2.new.self p c.min-through.result (omega (arith, c.len.ensures.counts)) first
    (c.sweep-then-places-2.ensures (λ k y. f p.number p.item.now k y) (λ q r e. search (rules, h)))

pub returns : goal.returns
returns g c = λ f h one two.
    let s = c.args.self.now in
    let p = c.args.last in
    let t = c.if-places.self in
    let first : Drawn s t (each (λ a x. option_to_list (f a x p.number p.item.now)) 0 (take p.number (held_in s))) = elim c.if-places.branch [
      | then-places w ↦ rw w.self-is (w.sweep.ensures (λ k x. f k x p.number p.item.now) (λ q r e. search (rules, h)))
      | else-places w ↦ rw w.self-is (unpaired s p.number (λ k x. f k x p.number p.item.now) (two w.if-places.false))
    ] in
    paired f s t t p c.min-through.result (omega (arith, c.len.ensures.counts)) first
    (unpaired t c.min-through.result (λ k y. f p.number p.item.now k y) (one c.if-places-2.false))
