use Rattle.std.proofs.Common.{◌≡◌, suc, ◌+◌, List, Some, ap, ◌∙◌, sym, add-one, arith, rules}
use Rattle.std.proofs.lemmas.Option.{slice_get_within}
use Rattle.format.specs.declared.node.Node.{Node}
use Rattle.format.specs.Keeps.{node_in, nodes_in}
use Rattle.format.specs.Ends.{past}
use Rattle.format.specs.Layout.{pass}
use Rattle.format.specs.Questions.{nth, children_of}
use Rattle.grammar.specs.Grammars.{contents_in}
use Rattle.grammar.proofs.Questions.{no_root, child_place, few_nodes}
use Rattle.grammar.proofs.grammar.Grammar.child.Goals as goal

pub map-requires : goal.map-requires
map-requires c x is _ _ =
    let g = c.args.self.now in
    let d = contents_in g in
    let t = c.args.tree in
    let n = c.args.node in
    let k = c.args.number in
    let count = ap (λ (v : Node). v.children) c.in_ok-parent.ensures.or_none in
    let there = slice_get_within (nodes_in d t) n c.in_ok-parent.parent.now (sym c.in_ok-parent.ensures.numbered) in
    let p = child_place d g.within g.ends t n k there (omega (arith, count)) in
    let e = c.past_subtrees.ensures ∙ (ap (λ (us : List Node). past us k (c.from.result + 1)) c.nodes.ensures ∙ ap (past (nodes_in d t) k) (add-one c.from.result ∙ ap suc c.from.ensures)) in
    let b = few_nodes d g.few t in
    let same : x ≡ pass (nodes_in d t) k (suc n) = let both : Some x ≡ Some (pass (nodes_in d t) k (suc n)) = sym is ∙ (e ∙ p.1) in cc in
    omega (arith, same, p.2, b)

pub returns-then-number-parent : goal.returns-then-number-parent
returns-then-number-parent c =
    let d = contents_in c.args.self.now in
    let count = ap (λ (v : Node). v.children) c.in_ok-parent.ensures.or_none in
    sym (no_root (nodes_in d c.args.tree) (node_in d c.args.tree c.args.node).children c.args.number (suc c.args.node) (omega (arith, count)))

pub returns : goal.returns
returns c =
    let g = c.args.self.now in
    let d = contents_in g in
    let t = c.args.tree in
    let n = c.args.node in
    let k = c.args.number in
    let count = ap (λ (v : Node). v.children) c.in_ok-parent.ensures.or_none in
    let there = slice_get_within (nodes_in d t) n c.in_ok-parent.parent.now (sym c.in_ok-parent.ensures.numbered) in
    let p = child_place d g.within g.ends t n k there (omega (arith, count)) in
    let e : c.past_subtrees.result ≡ nth (children_of d t n) k
    = c.past_subtrees.ensures ∙ (ap (λ (us : List Node). past us k (c.from.result + 1)) c.nodes.ensures ∙ (ap (past (nodes_in d t) k) (add-one c.from.result ∙ ap suc c.from.ensures) ∙ p.0)) in
    search rules
