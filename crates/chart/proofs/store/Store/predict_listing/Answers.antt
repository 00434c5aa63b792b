use Rattle.std.proofs.Common.{map, sym, refl}
use Rattle.format.specs.Keeps.{nodes_in}
use Rattle.format.specs.Questions.{listing_nodes}
use Rattle.steps.specs.Conclusions.{foot_site}
use Rattle.chart.specs.Drawn.{contents_of}
use Rattle.chart.proofs.Runs.{drawn_as, drawn_on}
use Rattle.chart.proofs.Listed.{one_more_tree}
use Rattle.chart.proofs.store.Store.predict_listing.Goals as goal

pub loop-tree-preserved : goal.loop-tree-preserved
loop-tree-preserved c =
    let d = contents_of c.args.self.now in
    let x = c.args.x.item.now in
    let f = foot_site c.args.x.number x in
    let k = c.loop-tree.tree in
    let s = c.args.self.now in
    let t = c.loop-tree.self in
    let u = c.predict_in_tree.new.self in
    drawn_as s u _ _ (sym (one_more_tree f d x.tree k))
    (drawn_on (λ g its. map f (listing_nodes x.tree k 0 (nodes_in g k))) s t u _ c.loop-tree.invariant (λ g. refl) c.predict_in_tree.ensures)
