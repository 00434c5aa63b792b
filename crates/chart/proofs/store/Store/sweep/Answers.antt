use Rattle.std.proofs.Common.{[], ◌∷◌, ap, arith}
use Rattle.std.specs.Option.{option_to_list}
use Rattle.steps.specs.Items.{item_at}
use Rattle.chart.proofs.Runs.{drawn_none, grown_then, swept, swept_full}
use Rattle.chart.proofs.store.Store.sweep.Goals as goal

pub returns-then-self : goal.returns-then-self
returns-then-self g c = λ f h.
    swept_full (λ k x. option_to_list (f k x)) c.args.self.now c.loop-number.self c.loop-number.number c.args.n (omega arith) c.if-self.true (c.loop-number.invariant.drawn f h)

pub loop-number-preserved-in_default : goal.loop-number-preserved-in_default
loop-number-preserved-in_default g c =
    let k = c.loop-number.number in
    record {
      grown = c.loop-number.invariant.grown;
      drawn = λ f h.
          swept (λ k x. option_to_list (f k x)) c.args.self.now c.loop-number.self c.loop-number.self k (item_at c.items.result.now k) []
          (omega arith) (c.loop-number.invariant.drawn f h) (ap (λ z. item_at z k) c.items.ensures) (ap option_to_list (h _ _ c.in_default.ensures)) (drawn_none c.loop-number.self);
    }

pub loop-number-preserved : goal.loop-number-preserved
loop-number-preserved g c =
    let k = c.loop-number.number in
    record {
      grown = grown_then _ _ _ c.loop-number.invariant.grown c.draw.ensures.grown;
      drawn = λ f h.
          swept (λ k x. option_to_list (f k x)) c.args.self.now c.loop-number.self c.draw.new.self k (item_at c.items.result.now k) (c.in-Some.conclusion ∷ [])
          (omega arith) (c.loop-number.invariant.drawn f h) (ap (λ z. item_at z k) c.items.ensures) (ap option_to_list (h _ _ c.in-Some.ensures)) c.draw.ensures;
    }
