use Rattle.std.proofs.Common.{◌+◌, ◌/◌, ltb, leb, length, vec_items, sym, arith, ltb-true, leb-true, false-eqb}
use Rattle.std.proofs.lemmas.Bool.{and_parts}
use Rattle.grammar.specs.Drafts.{state}
use Rattle.grammar.proofs.Additions.{tree_is_added}
use Rattle.grammar.proofs.draft.Draft.tree.Goals as goal

pub returns : goal.returns
returns c =
    let d = c.args.self.now in
    let s = state d in
    let body = c.args.body.now in
    let some = false-eqb (length body) 0 c.if-is_empty.ensures in
    let room = and_parts (ltb (length s.trees) 64) (leb (length s.nodes + length body / 4) 256) (sym c.if-not-has_room.ensures) in
    let h = c.in_ok-planted.ensures in
    tree_is_added s c.args.form body (omega arith) (omega arith) (ltb-true (length s.trees) 64 room.0) (leb-true (length s.nodes + length body / 4) 256 room.1)
    h.0 c.in_ok-planted.planted (vec_items c.add_tree.new.self.trees) (vec_items c.add_tree.new.self.nodes) h.1 h.2
    c.in_ok-add_tree.ensures.nodes c.in_ok-add_tree.ensures.trees
