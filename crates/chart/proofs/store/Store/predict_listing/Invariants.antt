use Rattle.std.proofs.Common.{map}
use Rattle.format.specs.Questions.{listing_trees}
use Rattle.steps.specs.Conclusions.{foot_site}
use Rattle.chart.specs.Drawn.{Drawn, contents_of}
use Rattle.chart.proofs.store.Store.predict_listing.Given as goal

abbrev pub invariant-loop-tree : goal.invariant-loop-tree
invariant-loop-tree l = Drawn l.initial.self l.self (map (foot_site l.x.number l.x.item.now) (listing_trees (contents_of l.initial.self) l.x.item.now.tree l.tree 0))
