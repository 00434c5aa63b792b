use Rattle.std.proofs.Common.{rules, ◌+◌, sym, ap, ◌∙◌}
use Rattle.std.specs.Option.{option_to_list}
use Rattle.steps.specs.Orders.{each}
use Rattle.steps.specs.Conclusions.{adjoin_complete}
use Rattle.chart.specs.Drawn.{contents_of}
use Rattle.chart.proofs.Runs.{drawn_as, unpaired, take_through}
use Rattle.chart.proofs.Fixed.{not_content}
use Rattle.chart.proofs.store.Store.adjoin_thirds.Goals as goal

pub returns-then-not-fills_finished : goal.returns-then-not-fills_finished
returns-then-not-fills_finished c =
    let d = contents_of c.args.self.now in
    let p = c.args.first in
    let q = c.args.second in
    unpaired c.args.self.now (p.number + 1) (adjoin_complete d p.number p.item.now q.number q.item.now)
    (λ k z. not_content d p.number p.item.now q.number q.item.now k z (sym c.fills_finished.ensures ∙ c.if-not-fills_finished.true))

pub returns : goal.returns
returns c =
    let s = c.args.self.now in
    let d = contents_of s in
    let p = c.args.first in
    let q = c.args.second in
    let f = adjoin_complete d p.number p.item.now q.number q.item.now in
    drawn_as s c.sweep.new.self _ _
    (ap (λ z. each (λ k z. option_to_list (f k z)) 0 z) (take_through s p.number c.saturating_add.result c.saturating_add.ensures))
    (c.sweep.ensures f (λ x r e. search rules))
