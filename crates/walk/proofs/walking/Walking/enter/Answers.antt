use Rattle.std.proofs.Common.{List, get_or, sym, refl, ap, ◌∙◌}
use Rattle.format.specs.declared.node.Node.{Node}
use Rattle.format.specs.Parts.{no_node}
use Rattle.walk.proofs.Goings.{kept_pause, enter_bare, going_foot, enter_foot}
use Rattle.walk.proofs.walking.Walking.enter.Goals as goal

pub returns-in_default-content : goal.returns-in_default-content
returns-in_default-content c =
    let w = c.args.self.now in
    let e = ap (λ (vs : List Node). (get_or vs w.here.node no_node).kind) (sym c.nodes.ensures) ∙ c.in-Foot.is in
    record { grammar = refl; entries = refl; depth = refl; ahead = enter_bare w.going c.requires c.in-Foot.field-0 e c.in_default-content.is }

pub invariant_of-self-2 : goal.invariant_of-self-2
invariant_of-self-2 c =
    let w = c.args.self.now in
    let e = ap (λ (vs : List Node). (get_or vs w.here.node no_node).kind) (sym c.nodes.ensures) ∙ c.in-Foot.is in
    let q = kept_pause w.stack.now c.pause.new.stack w.depth w.waits c.pause.auto.stack c.pause.ensures.others c.pause.ensures.contents in
    record { going = going_foot w.going c.requires c.in-Foot.field-0 e c.in-Some.content c.in-Some.is c.pause.new.stack q c.pause.ensures.new }

pub returns : goal.returns
returns c =
    let w = c.args.self.now in
    let e = ap (λ (vs : List Node). (get_or vs w.here.node no_node).kind) (sym c.nodes.ensures) ∙ c.in-Foot.is in
    let q = kept_pause w.stack.now c.pause.new.stack w.depth w.waits c.pause.auto.stack c.pause.ensures.others c.pause.ensures.contents in
    record {
      grammar = refl;
      entries = c.pause.auto.stack;
      depth = refl;
      ahead = enter_foot w.going c.requires c.in-Foot.field-0 e c.in-Some.content c.in-Some.is c.pause.new.stack q c.pause.ensures.new;
    }
