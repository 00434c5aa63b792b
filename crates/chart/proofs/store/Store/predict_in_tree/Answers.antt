use Rattle.std.proofs.Common.{◌≡◌, ℕ, ◌+◌, ◌<◌, Bool, List, cond, [], ◌∷◌, ◌++◌, map, length, get_or, take, sym, ap, ◌∙◌, arith, length-append}
use Rattle.std.proofs.lemmas.List.{take_all}
use Rattle.std.specs.Slice.Iter.{iter_rest}
use Rattle.format.specs.declared.node.Node.{Node}
use Rattle.format.specs.declared.spot.Site.{Site}
use Rattle.format.specs.Parts.{no_node}
use Rattle.format.specs.Keeps.{nodes_in}
use Rattle.format.specs.Questions.{listing_nodes}
use Rattle.steps.specs.declared.item.Item.{Item}
use Rattle.steps.specs.Conclusions.{foot_site}
use Rattle.chart.specs.declared.store.Store.{Store}
use Rattle.chart.specs.Drawn.{Drawn, contents_of}
use Rattle.chart.proofs.Counts.{counted_first, counted_next, counted_more, counted_end, few_nodes}
use Rattle.chart.proofs.Runs.{drawn_none, drawn_as, drawn_then}
use Rattle.chart.proofs.Listed.{site_if, one_more_node}
use Rattle.chart.proofs.store.Store.predict_in_tree.Goals as goal

one_more : (s t u : Store) (f : Site → Item) (b a k n m : ℕ) (vs : List Node) → k ≡ n → m ≡ n + 1 → k < length vs
    → Drawn s t (map f (listing_nodes b a 0 (take n vs))) → Drawn t u (map f (site_if b a k (get_or vs k no_node))) → Drawn s u (map f (listing_nodes b a 0 (take m vs)))
one_more s t u f b a k n m vs e more h before now =
    drawn_as s u (map f (listing_nodes b a 0 (take k vs)) ++ map f (site_if b a k (get_or vs k no_node))) _
    (sym (one_more_node f b a k vs h) ∙ ap (λ (i : ℕ). map f (listing_nodes b a 0 (take i vs))) (let q : k + 1 ≡ m = omega arith in q))
    (drawn_then s t u _ _ (drawn_as s t _ _ (ap (λ (i : ℕ). map f (listing_nodes b a 0 (take i vs))) (sym e)) before) now)

pub loop-node-init : goal.loop-node-init
loop-node-init c =
    let i = c.into_iter-node-iterator.result in
    let made = c.into_iter-node-iterator.ensures.into_iter_gives in
    let first : i.a ≡ c.new.result = ap (λ z. z.a) made ∙ c.zip-node-items.ensures.first in
    let second = c.zip-node-items.ensures.second in (
      drawn_none c.args.self.now,
      counted_first i.a (ap (λ r. r.start) first ∙ c.new.ensures.start) (ap (λ r. r.end) first ∙ c.new.ensures.end) (ap (λ r. r.exhausted) first ∙ c.new.ensures.exhausted),
      omega (arith, ap (λ z. length (iter_rest z.b)) made, ap length second.0, ap length c.nodes.ensures),
    )

pub loop-node-preserved-then-not-lists : goal.loop-node-preserved-then-not-lists
loop-node-preserved-then-not-lists c =
    let vs = nodes_in (contents_of c.args.self.now) c.args.tree in
    let x = c.args.x.item.now in
    let f = foot_site c.args.x.number x in
    let t = c.loop-node.self in
    let i = c.loop-node.node-iterator in
    let n = length c.loop-node.yielded in
    let m = length (c.loop-node.yielded ++ (c.in-Some.node, c.in-Some.field-0-1) ∷ []) in
    let more : m ≡ n + 1 = length-append c.loop-node.yielded ((c.in-Some.node, c.in-Some.field-0-1) ∷ []) in
    let steps = c.in-Some.ensures.steps in
    let e = counted_next i.a n c.in-Some.node _ c.loop-node.invariant.1 steps.0.1.0 steps.0.1.1 in
    let rest = ap length steps.1 in (
      one_more c.args.self.now t t f x.tree c.args.tree c.in-Some.node n m vs e more (omega (arith, e, rest, c.loop-node.invariant.2)) c.loop-node.invariant.0
          (drawn_as t t [] _ (ap (λ (q : Bool). map f (cond q (record { tree = c.args.tree; node = c.in-Some.node } ∷ []) [])) c.if-not-lists.ensures) (drawn_none t)),
      counted_more i.a c.next.new.self.a n m c.loop-node.invariant.1 steps.0.0 (sym steps.0.1.0 ∙ e) steps.0.1.1 steps.0.1.2 more,
      omega (arith, more, rest, c.loop-node.invariant.2),
    )

pub loop-node-preserved : goal.loop-node-preserved
loop-node-preserved c =
    let vs = nodes_in (contents_of c.args.self.now) c.args.tree in
    let x = c.args.x.item.now in
    let f = foot_site c.args.x.number x in
    let t = c.loop-node.self in
    let u = c.draw.new.self in
    let i = c.loop-node.node-iterator in
    let n = length c.loop-node.yielded in
    let m = length (c.loop-node.yielded ++ (c.in-Some.node, c.in-Some.field-0-1) ∷ []) in
    let more : m ≡ n + 1 = length-append c.loop-node.yielded ((c.in-Some.node, c.in-Some.field-0-1) ∷ []) in
    let steps = c.in-Some.ensures.steps in
    let e = counted_next i.a n c.in-Some.node _ c.loop-node.invariant.1 steps.0.1.0 steps.0.1.1 in
    let rest = ap length steps.1 in (
      one_more c.args.self.now t u f x.tree c.args.tree c.in-Some.node n m vs e more (omega (arith, e, rest, c.loop-node.invariant.2)) c.loop-node.invariant.0
          (drawn_as t u (c.first.result ∷ []) _
          (ap (λ (y : Item). y ∷ []) c.first.ensures ∙ ap (λ (q : Bool). map f (cond q (record { tree = c.args.tree; node = c.in-Some.node } ∷ []) [])) c.if-not-lists.ensures) c.draw.ensures),
      counted_more i.a c.next.new.self.a n m c.loop-node.invariant.1 steps.0.0 (sym steps.0.1.0 ∙ e) steps.0.1.1 steps.0.1.2 more,
      omega (arith, more, rest, c.loop-node.invariant.2),
    )

pub returns : goal.returns
returns c =
    let vs = nodes_in (contents_of c.args.self.now) c.args.tree in
    let x = c.args.x.item.now in
    let f = foot_site c.args.x.number x in
    let i = c.loop-node.node-iterator in
    let n = length c.loop-node.yielded in
    let few = few_nodes (contents_of c.args.self.now) c.args.self.now.grammar.now.few c.args.tree in
    let h = counted_end i.a i.b n (length vs) c.loop-node.invariant.1 c.loop-node.invariant.2 few c.in-None.ensures.steps in
    drawn_as c.args.self.now c.loop-node.self _ _ (ap (λ (ws : List Node). map f (listing_nodes x.tree c.args.tree 0 ws)) (take_all n vs h)) c.loop-node.invariant.0
