use Rattle.std.proofs.Common.{refl, ap, ◌∙◌}
use Rattle.steps.specs.Items.{item_at}
use Rattle.steps.specs.Conclusions.{scan, predict, complete, adjoin_predict, foot_predict, foot_complete, adjoin_complete, conclusions}
use Rattle.chart.specs.declared.store.Premise.{Premise}
use Rattle.chart.specs.Drawn.{Drawn, contents_of, held_in}
use Rattle.chart.specs.Lasts.{pairs_with, triples_with}
use Rattle.chart.proofs.Runs.{drawn_as, drawn_on, pairs_front, triples_front, one_by_one, conclusions_at}
use Rattle.chart.proofs.store.Store.process_item.Goals as goal

pub returns : goal.returns
returns g c =
    let s = c.args.self.now in
    let m = g.S.Source.meaning c.args.short.now.source.now in
    let n = c.args.number in
    let x = item_at c.items.result.now n in
    let p : Premise = record { number = n; item = record { ref_ptr = c.items.result.ref_ptr; now = x } } in
    let h = c.requires in
    let d1 : Drawn s c.scan_leaf.new.self (scan (contents_of s) m n x) = c.scan_leaf.ensures in
    let d2 = drawn_on (λ d its. predict d n x) s c.scan_leaf.new.self c.predict_node.new.self _ d1 (λ d. refl) c.predict_node.ensures in
    let d3 = drawn_on (λ d its. pairs_with (complete d) its p) s c.predict_node.new.self c.complete_pairs.new.self _ d2 (λ d. pairs_front (complete d) s _ _ p d2 h) c.complete_pairs.ensures in
    let d4 = drawn_on (λ d its. adjoin_predict d n x) s c.complete_pairs.new.self c.predict_adjoined.new.self _ d3 (λ d. refl) c.predict_adjoined.ensures in
    let d5 = drawn_on (λ d its. foot_predict d n x) s c.predict_adjoined.new.self c.predict_foot.new.self _ d4 (λ d. refl) c.predict_foot.ensures in
    let d6 = drawn_on (λ d its. pairs_with (foot_complete d) its p) s c.predict_foot.new.self c.foot_pairs.new.self _ d5 (λ d. pairs_front (foot_complete d) s _ _ p d5 h) c.foot_pairs.ensures in
    let d7 = drawn_on (λ d its. triples_with (adjoin_complete d) its p) s c.foot_pairs.new.self c.adjoin_triples.new.self _ d6 (λ d. triples_front (adjoin_complete d) s _ _ p d6 h) c.adjoin_triples.ensures in
    let d = contents_of s in
    drawn_as s c.adjoin_triples.new.self _ (conclusions d m (held_in s) n)
    (one_by_one (scan d m n x) (predict d n x) (pairs_with (complete d) (held_in s) p) (adjoin_predict d n x) (foot_predict d n x) (pairs_with (foot_complete d) (held_in s) p) (triples_with (adjoin_complete d) (held_in s) p)
    ∙ ap (conclusions_at d m (held_in s) p) (ap (λ z. item_at z n) c.items.ensures)) d7
