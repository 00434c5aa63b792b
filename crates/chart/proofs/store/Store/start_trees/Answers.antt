use Rattle.std.proofs.Common.{rules, ℕ, ap}
use Rattle.format.specs.declared.spot.Spot.TheVariants.{Top}
use Rattle.format.specs.Questions.{may_start}
use Rattle.steps.specs.declared.item.Origin.TheVariants.{Start}
use Rattle.steps.specs.Items.{fresh}
use Rattle.steps.specs.Orders.{upto}
use Rattle.steps.specs.Conclusions.{when, start_tree}
use Rattle.chart.specs.Drawn.{contents_of}
use Rattle.chart.proofs.Runs.{drawn_as}
use Rattle.chart.proofs.store.Store.start_trees.Goals as goal

pub returns : goal.returns
returns c =
    let d = contents_of c.args.self.now in
    drawn_as c.args.self.now c.draw_each.new.self _ _ (ap (λ (n : ℕ). upto n (start_tree d)) c.tree_count.ensures)
    (c.draw_each.ensures (λ t. when (may_start d t) (fresh t Top 0 Start)) (λ k r l e. search rules))
