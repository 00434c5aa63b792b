use Rattle.std.proofs.Common.{List, length, get_or, refl, ap, ◌∙◌, arith}
use Rattle.format.specs.declared.node.Node.{Node}
use Rattle.format.specs.Parts.{no_node}
use Rattle.walk.proofs.Goings.{Kept, kept_pause, going_kept, going_adjoin, walk_adjoin}
use Rattle.walk.proofs.walking.Walking.adjoin.Goals as goal

pub invariant_of-self : goal.invariant_of-self
invariant_of-self c =
    let w = c.args.self.now in
    record { going = going_kept w.going c.pause.new.stack (kept_pause w.stack.now c.pause.new.stack w.depth w.waits c.pause.auto.stack c.pause.ensures.others c.pause.ensures.contents) }

pub invariant_of-self-2 : goal.invariant_of-self-2
invariant_of-self-2 c =
    let w = c.args.self.now in
    let q : Kept w.stack.now c.begin.new.stack w.depth w.waits = record {
      long = c.begin.auto.stack ∙ c.pause.auto.stack;
      others = λ j h. c.begin.ensures.waits j ∙ c.pause.ensures.others j (λ z. omega arith);
      contents = λ i h. c.begin.ensures.others i (λ z. omega arith) ∙ c.pause.ensures.contents i;
    } in
    record {
      going =
          going_adjoin w.going c.requires.some w.grammar.now.ends w.grammar.now.subtrees c.args.tree c.args.tag _ (ap length c.nodes-2.ensures)
          _ (ap (λ (vs : List Node). get_or vs w.here.node no_node) c.nodes.ensures) c.content_of-content.result c.content_of-content.ensures
          c.begin.new.stack q (c.begin.ensures.waits w.waits ∙ c.pause.ensures.new) c.begin.ensures.new c.requires.room;
    }

pub returns : goal.returns
returns c =
    let w = c.args.self.now in
    let q : Kept w.stack.now c.begin.new.stack w.depth w.waits = record {
      long = c.begin.auto.stack ∙ c.pause.auto.stack;
      others = λ j h. c.begin.ensures.waits j ∙ c.pause.ensures.others j (λ z. omega arith);
      contents = λ i h. c.begin.ensures.others i (λ z. omega arith) ∙ c.pause.ensures.contents i;
    } in
    record {
      grammar = refl;
      entries = q.long;
      depth = refl;
      ahead =
          walk_adjoin w.going c.requires.some w.grammar.now.ends w.grammar.now.subtrees c.args.tree c.args.tag _ (ap length c.nodes-2.ensures)
          _ (ap (λ (vs : List Node). get_or vs w.here.node no_node) c.nodes.ensures) c.content_of-content.result c.content_of-content.ensures
          c.begin.new.stack q (c.begin.ensures.waits w.waits ∙ c.pause.ensures.new) c.begin.ensures.new c.requires.room;
    }
