use Rattle.std.proofs.Common.{rules, sym, ◌∙◌}
use Rattle.steps.specs.Conclusions.{foot_complete}
use Rattle.chart.specs.Drawn.{contents_of}
use Rattle.chart.proofs.Fixed.{unfinished_foot, no_foot_starts}
use Rattle.chart.proofs.store.Store.foot_pairs.Goals as goal

pub returns : goal.returns
returns c =
    let d = contents_of c.args.self.now in
    let p = c.args.last in
    c.pair.ensures (foot_complete d) (λ x y r e. search rules)
    (λ h k x. unfinished_foot d p.number p.item.now k x (sym c.finished.ensures ∙ h))
    (λ h k x. no_foot_starts d k x p.number p.item.now (sym c.starts_foot.ensures ∙ h))
