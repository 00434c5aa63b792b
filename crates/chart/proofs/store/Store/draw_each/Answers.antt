use Rattle.std.proofs.Common.{◌≡◌, ℕ, [], ◌∷◌, ap, arith}
use Rattle.std.specs.Option.{option_to_list}
use Rattle.steps.specs.Orders.{upto}
use Rattle.chart.proofs.Runs.{drawn_none, drawn_as, stepped}
use Rattle.chart.proofs.store.Store.draw_each.Goals as goal

pub loop-k-preserved-in_default : goal.loop-k-preserved-in_default
loop-k-preserved-in_default g c = λ f h.
    stepped (λ k. option_to_list (f k)) c.args.self.now c.loop-k.self c.loop-k.self c.loop-k.k [] (c.loop-k.invariant f h)
    (ap option_to_list (h _ _ c.loop-k-test.true c.in_default.ensures)) (drawn_none c.loop-k.self)

pub loop-k-preserved : goal.loop-k-preserved
loop-k-preserved g c = λ f h.
    stepped (λ k. option_to_list (f k)) c.args.self.now c.loop-k.self c.draw.new.self c.loop-k.k (c.in-Some.item ∷ []) (c.loop-k.invariant f h)
    (ap option_to_list (h _ _ c.loop-k-test.true c.in-Some.ensures)) c.draw.ensures

pub returns : goal.returns
returns g c = λ f h.
    let e : c.loop-k.k ≡ c.args.n = omega arith in
    drawn_as c.args.self.now c.loop-k.self _ _ (ap (λ (n : ℕ). upto n (λ k. option_to_list (f k))) e) (c.loop-k.invariant f h)
