use Rattle.std.proofs.Common.{◌≡◌, ℕ, ◌-◌, ◌<◌, ◌≤◌, Bool, false, eqb, List, length, Some, None, Option, MatchOption, HoldsAt, Bor, sym, ap, ◌∙◌, subst, arith, rules, tests}
use Rattle.format.specs.declared.node.Node.{Node}
use Rattle.format.specs.Trees.{Entry}
use Rattle.format.specs.Parts.{no_node}
use Rattle.format.specs.Ends.{bares, Closed}
use Rattle.fields.proofs.Closing.{Closing, closing_begins, closing_goes_on, closing_fails, closing_ends, none_to_close, length_bares}
use Rattle.fields.proofs.shape.close_subtrees.Goals as goal

pub loop-i-init : goal.loop-i-init
loop-i-init c = closing_begins c.args.nodes.now c.requires

pub returns-in_default : goal.returns-in_default
returns-in_default c =
    closing_fails (bares c.args.nodes.now) c.loop-i.nodes c.loop-i.i (c.loop-i.i - 1) (omega arith) (omega arith)
    (omega (arith, length_bares c.args.nodes.now)) c.loop-i.invariant c.in_default.ensures

pub loop-i-preserved : goal.loop-i-preserved
loop-i-preserved c =
    closing_goes_on (bares c.args.nodes.now) c.loop-i.nodes c.loop-i.i (c.loop-i.i - 1) c.in-Some.end (omega arith) (omega arith)
    (omega (arith, length_bares c.args.nodes.now)) c.loop-i.invariant c.in-Some.ensures

closed_by : (Q : Bor Node → Type 0) (es : List Entry) (ns : List Node) (i : ℕ) (o : Option (Bor Node)) (b : Bool) → i ≡ 0 → length ns ≡ length es → Closing es ns i
    → MatchOption o (length ns ≤ 0) (λ x. (0 < length ns) × HoldsAt (λ y. x.now ≡ y) ns 0) → MatchOption o (b ≡ false) (λ x. Q x)
    → ((x : Bor Node) → Q x → b ≡ eqb x.now.end (length ns)) → Closed es ns b
closed_by Q es ns i None b e l c f h q = subst (Closed es ns) (sym h) (none_to_close es (omega (arith, f, l)))
closed_by Q es ns i (Some x) b e l c f h q =
    subst (Closed es ns) (sym (q x h ∙ ap (λ (v : Node). eqb v.end (length ns)) (f.1 no_node))) (closing_ends es ns i e c f.0)

pub returns : goal.returns
returns c =
    closed_by _ (bares c.args.nodes.now) c.loop-i.nodes c.loop-i.i c.first.result c.is_some_and.result (omega arith) (omega (arith, length_bares c.args.nodes.now)) c.loop-i.invariant
    c.first.ensures.item.3 c.is_some_and.ensures (λ x k. search (rules, tests))
