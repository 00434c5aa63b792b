use Rattle.std.proofs.Common.{rules, ◌≡◌, ℕ, ◌+◌, ap, arith}
use Rattle.steps.specs.declared.item.Origin.TheVariants.{Scan}
use Rattle.steps.specs.Items.{moved}
use Rattle.steps.specs.Orders.{upto}
use Rattle.steps.specs.Conclusions.{when, scan_edge}
use Rattle.chart.proofs.Runs.{drawn_as}
use Rattle.chart.proofs.store.Store.scan_edges.Goals as goal

pub returns : goal.returns
returns g c =
    let m = g.S.Source.meaning c.args.short.now.source.now in
    let x = c.args.x.item.now in
    let t = c.args.x.number in
    drawn_as c.args.self.now c.draw_each.new.self _ _ (ap (λ (k : ℕ). upto k (scan_edge m t x c.args.word)) (let e : c.last_position-positions.result + 1 ≡ m.last + 1 = omega (arith, c.last_position-positions.ensures) in e))
    (c.draw_each.ensures (λ k. when (m.edge x.j c.args.word k) (moved x k x.p x.q (Scan t))) (λ k r l e. search rules))
