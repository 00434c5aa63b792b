use Rattle.std.proofs.Common.{◌≡◌, ℕ, suc, ◌+◌, ◌-◌, ◌<◌, Bool, cond, List, length, get_or, None, sym, ap, ◌∙◌, refl, ltb-true, arith}
use Rattle.std.proofs.lemmas.List.{get_or_read_under}
use Rattle.format.specs.declared.node.Node.{Node}
use Rattle.format.specs.Ends.{past}
use Rattle.format.specs.Parts.{no_node}
use Rattle.fields.proofs.shape.past_subtrees.Goals as goal

past_more : (ns : List Node) (n i at : ℕ) → i < n → past ns (n - i) at ≡ past ns (suc (n - (i + 1))) at
past_more ns n i at h = ap (λ (k : ℕ). past ns k at) (let e : n - i ≡ suc (n - (i + 1)) = omega arith in e)

pub loop-child-preserved : goal.loop-child-preserved
loop-child-preserved c =
    let ns = c.args.nodes.now in
    let on = past ns (c.args.count - (c.loop-child._child + 1)) (get_or ns c.loop-child.at no_node).end in
    let here : c.loop-child.at < length ns = ltb-true c.loop-child.at (length ns) (sym c.in_ok-at.ensures.lookup.0) in
    rw (get_or_read_under ns c.loop-child.at (length ns) c.in_ok-at.field-0.now no_node c.in_ok-at.ensures.lookup.1 here refl) (ap (λ (b : Bool). cond b on None) c.in_ok-at.ensures.lookup.0
    ∙ (sym (past_more ns c.args.count c.loop-child._child c.loop-child.at c.loop-child-test.true) ∙ c.loop-child.invariant))
