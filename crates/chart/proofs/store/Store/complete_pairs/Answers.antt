use Rattle.std.proofs.Common.{rules, sym, ◌∙◌}
use Rattle.steps.specs.Conclusions.{complete}
use Rattle.chart.specs.Drawn.{contents_of}
use Rattle.chart.proofs.Fixed.{unfinished_completes, no_site_completes, none_from}
use Rattle.chart.proofs.store.Store.complete_pairs.Goals as goal

pub returns : goal.returns
returns c =
    let d = contents_of c.args.self.now in
    let p = c.args.last in
    c.pair.ensures (complete d) (λ x y r e. search rules)
    (λ h k x. no_site_completes d p.number p.item.now k x (sym c.site.ensures.is ∙ none_from c.site.result (sym c.is_some.ensures ∙ h)))
    (λ h k x. unfinished_completes d k x p.number p.item.now (sym c.finished.ensures ∙ h))
