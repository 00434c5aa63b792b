use Rattle.std.proofs.Common.{◌≡◌, ℕ, ◌+◌, ◌<◌, [], take, sym, ap, ◌∙◌, arith}
use Rattle.grammar.specs.declared.grammar.Grammar.{Grammar}
use Rattle.grammar.specs.Grammars.{contents_in}
use Rattle.steps.specs.declared.item.Item.{Item}
use Rattle.steps.specs.Items.{item_at}
use Rattle.steps.specs.Orders.{each}
use Rattle.steps.specs.Conclusions.{adjoin_complete}
use Rattle.chart.specs.Drawn.{contents_of, held_in}
use Rattle.chart.specs.Lasts.{pairs_with, thirds_with}
use Rattle.chart.proofs.Runs.{drawn_none, drawn_as, drawn_on, drawn_item_at, turned, pairs_front, thirds_front, firsts_front}
use Rattle.chart.proofs.Skips.{each_none, each_empty}
use Rattle.chart.proofs.Fixed.{not_whole}
use Rattle.chart.proofs.store.Store.adjoin_triples.Goals as goal

pub loop-a-preserved : goal.loop-a-preserved
loop-a-preserved c =
    let s = c.args.self.now in
    let r = c.loop-a.self in
    let p = c.args.last in
    let a = c.loop-a.a in
    let h : a < s.list.held = omega (arith, c.requires, c.loop-a-test.true) in
    let d = c.loop-a.invariant in
    let x = item_at c.items.result.now a in
    turned (λ a x. pairs_with (adjoin_complete (contents_of s) a x) (held_in s) p) s r c.adjoin_below.new.self a _ h d
    (pairs_front (adjoin_complete (contents_of r) a x) s r _ p d c.requires
    ∙ (ap (λ (g : Grammar). pairs_with (adjoin_complete (contents_in g) a x) (held_in s) p) d.grown.grammar
    ∙ ap (λ (z : Item). pairs_with (adjoin_complete (contents_of s) a z) (held_in s) p) (ap (λ z. item_at z a) c.items.ensures ∙ drawn_item_at s r _ a d h)))
    c.adjoin_below.ensures

pub loop-b-preserved : goal.loop-b-preserved
loop-b-preserved c =
    let s = c.loop-a.self in
    let r = c.loop-b.self in
    let p = c.args.last in
    let b = c.loop-b.b in
    let h : p.number < s.list.held = omega (arith, c.requires, c.loop-a.invariant.grown.list.grows) in
    let k : b < s.list.held = omega (arith, h, c.loop-b-test.true) in
    let d = c.loop-b.invariant in
    let y = item_at c.items-in-loop-b.result.now b in
    turned (thirds_with (adjoin_complete (contents_of s)) (held_in s) p) s r c.adjoin_thirds.new.self b _ k d
    (thirds_front (adjoin_complete (contents_of r)) s r _ p b y d h
    ∙ (ap (λ (g : Grammar). thirds_with (adjoin_complete (contents_in g)) (held_in s) p b y) d.grown.grammar
    ∙ ap (λ (z : Item). thirds_with (adjoin_complete (contents_of s)) (held_in s) p b z) (ap (λ z. item_at z b) c.items-in-loop-b.ensures ∙ drawn_item_at s r _ b d k)))
    c.adjoin_thirds.ensures

pub returns-then-not-is_whole : goal.returns-then-not-is_whole
returns-then-not-is_whole c =
    let s = c.args.self.now in
    let t = c.loop-a.self in
    let p = c.args.last in
    let f = adjoin_complete (contents_of t) in
    let e : c.loop-a.a ≡ p.number = omega arith in
    let d = drawn_as s t _ (each (λ a x. pairs_with (adjoin_complete (contents_of s) a x) (held_in s) p) 0 (take p.number (held_in s)))
    (ap (λ (k : ℕ). each (λ a x. pairs_with (adjoin_complete (contents_of s) a x) (held_in s) p) 0 (take k (held_in s))) e) c.loop-a.invariant in
    drawn_on (λ g its. each (thirds_with (adjoin_complete g) its p) 0 (take (p.number + 1) its)) s t t _ d
    (λ g. firsts_front (adjoin_complete g) s t _ p d c.requires)
    (drawn_as t t [] _ (sym (each_empty (thirds_with f (held_in t) p) 0 (take (p.number + 1) (held_in t))
    (λ b y. each_none (f p.number p.item.now b y) 0 (take (p.number + 1) (held_in t)) (λ k z. not_whole (contents_of t) p.number p.item.now b y k z (sym c.is_whole.ensures ∙ c.if-not-is_whole.true)))))
    (drawn_none t))

pub returns : goal.returns
returns c =
    let s = c.args.self.now in
    let t = c.loop-a.self in
    let u = c.loop-b.self in
    let p = c.args.last in
    let e : c.loop-a.a ≡ p.number = omega arith in
    let l : c.loop-b.b ≡ p.number + 1 = omega arith in
    let d = drawn_as s t _ (each (λ a x. pairs_with (adjoin_complete (contents_of s) a x) (held_in s) p) 0 (take p.number (held_in s)))
    (ap (λ (k : ℕ). each (λ a x. pairs_with (adjoin_complete (contents_of s) a x) (held_in s) p) 0 (take k (held_in s))) e) c.loop-a.invariant in
    drawn_on (λ g its. each (thirds_with (adjoin_complete g) its p) 0 (take (p.number + 1) its)) s t u _ d
    (λ g. firsts_front (adjoin_complete g) s t _ p d c.requires)
    (drawn_as t u _ _ (ap (λ (k : ℕ). each (thirds_with (adjoin_complete (contents_of t)) (held_in t) p) 0 (take k (held_in t))) l) c.loop-b.invariant)
