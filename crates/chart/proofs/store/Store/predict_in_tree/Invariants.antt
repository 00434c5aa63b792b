use Rattle.std.proofs.Common.{◌≡◌, ◌+◌, length, map, take}
use Rattle.std.specs.Slice.Iter.{iter_rest}
use Rattle.format.specs.Questions.{listing_nodes}
use Rattle.format.specs.Keeps.{nodes_in}
use Rattle.steps.specs.Conclusions.{foot_site}
use Rattle.chart.specs.Drawn.{Drawn, contents_of}
use Rattle.chart.proofs.Counts.{Counted}
use Rattle.chart.proofs.store.Store.predict_in_tree.Given as goal

abbrev pub invariant-loop-node : goal.invariant-loop-node
invariant-loop-node l =
    let vs = nodes_in (contents_of l.initial.self) l.tree in
    let n = length l.yielded in
    Drawn l.initial.self l.self (map (foot_site l.x.number l.x.item.now) (listing_nodes l.x.item.now.tree l.tree 0 (take n vs)))
    × Counted l.node-iterator.a n
    × (length (iter_rest l.node-iterator.b) + n ≡ length vs)
