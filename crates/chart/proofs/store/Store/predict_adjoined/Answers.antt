use Rattle.std.proofs.Common.{rules, ℕ, Option, ap, ◌∙◌}
use Rattle.format.specs.declared.spot.Spot.TheVariants.{Top}
use Rattle.steps.specs.declared.item.Origin.TheVariants.{AdjoinPredict}
use Rattle.steps.specs.Items.{fresh}
use Rattle.steps.specs.Orders.{upto}
use Rattle.steps.specs.Conclusions.{when, listed, adjoin_tree, adjoin_predict_at}
use Rattle.chart.specs.Drawn.{contents_of}
use Rattle.chart.proofs.Runs.{drawn_as}
use Rattle.chart.proofs.store.Store.predict_adjoined.Goals as goal

pub returns : goal.returns
returns c =
    let d = contents_of c.args.self.now in
    let x = c.args.x.item.now in
    let t = c.args.x.number in
    let n = c.in-Some.n in
    drawn_as c.args.self.now c.draw_each.new.self _ _
    (ap (λ (k : ℕ). upto k (adjoin_tree d t x n)) c.tree_count.ensures ∙ ap (λ (o : Option ℕ). adjoin_predict_at d t x o) c.in-Some.ensures.is)
    (c.draw_each.ensures (λ b. when (listed d x.tree n b) (fresh b Top x.j (AdjoinPredict t))) (λ k r l e. search rules))
