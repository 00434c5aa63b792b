use Rattle.std.proofs.Common.{rules, sym, ◌∙◌}
use Rattle.steps.specs.Conclusions.{adjoin_complete}
use Rattle.chart.specs.Drawn.{contents_of}
use Rattle.chart.proofs.Runs.{unpaired_both}
use Rattle.chart.proofs.Fixed.{not_whole, not_content, not_placed}
use Rattle.chart.proofs.store.Store.adjoin_below.Goals as goal

pub returns-then-not-is_whole : goal.returns-then-not-is_whole
returns-then-not-is_whole c =
    let d = contents_of c.args.self.now in
    let p = c.args.first in
    unpaired_both c.args.self.now c.args.last (adjoin_complete d p.number p.item.now)
    (λ b y k z. not_whole d p.number p.item.now b y k z (sym c.is_whole.ensures ∙ c.if-not-is_whole.true))

pub returns : goal.returns
returns c =
    let d = contents_of c.args.self.now in
    let p = c.args.first in
    let q = c.args.last in
    c.pair.ensures (adjoin_complete d p.number p.item.now) (λ x y r e. search rules)
    (λ h k z. not_content d p.number p.item.now q.number q.item.now k z (sym c.fills_finished.ensures ∙ h))
    (λ h k y. not_placed d p.number p.item.now k y q.number q.item.now (sym c.begins_after.ensures ∙ h))
