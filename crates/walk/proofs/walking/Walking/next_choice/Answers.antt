use Rattle.std.proofs.Common.{◌<◌, ◌∙◌, sym, subst}
use Rattle.walk.specs.Ahead.{Ahead}
use Rattle.walk.specs.Sizes.{size}
use Rattle.walk.specs.Stacks.{content, paused}
use Rattle.walk.specs.Moves.{contents_of, ahead_of}
use Rattle.walk.proofs.Sizes.{size_entered}
use Rattle.walk.proofs.Guides.{silent_on}
use Rattle.walk.proofs.walking.Walking.next_choice.Goals as goal

pub loop-node-smaller : goal.loop-node-smaller
loop-node-smaller g c =
    let w = c.loop-node.self in
    let n = rw c.in-Some.is at c.node.ensures in
    subst (λ (a : Ahead). size a < size (ahead_of w)) (sym c.enter-in_default-2.ensures.ahead)
    (size_entered w.here.tag w.here.tree w.here.node w.here.end (content w.stack.now w.here.frame) (paused w.stack.now w.waits) n.0 (contents_of w))

pub loop-node-preserved : goal.loop-node-preserved
loop-node-preserved g c =
    let w = c.loop-node.self in
    let i = c.loop-node.invariant in
    let m = c.enter-in_default-2.ensures in
    let n = rw c.in-Some.is at c.node.ensures in
    record {
      grammar = m.grammar ∙ i.grammar;
      entries = m.entries ∙ i.entries;
      depth = m.depth ∙ i.depth;
      left = i.left;
      led = silent_on g.G.Guide.holds g.G.Guide.silent w c.enter-in_default-2.new.self c.in-Some.node.now i.grammar i.led n.0 n.1 c.in_default-2.not-Word
          (sym c.lists_any.ensures ∙ c.if-lists_any.false) m;
    }
