use Rattle.std.proofs.Common.{◌≡◌, ℕ, [], ◌∷◌, ◌++◌, Err, Option, Result, ok_or, vec_items, sym, refl, ap, ◌∙◌, arith}
use Rattle.std.proofs.lemmas.Result.{err_from_is_err_and}
use Rattle.std.proofs.lemmas.Slice.{pushed}
use Rattle.format.specs.declared.fault.Refusal.{Refusal}
use Rattle.format.specs.declared.fault.Rule.TheVariants as broken
use Rattle.format.specs.declared.node.Kind.{Kind}
use Rattle.format.specs.declared.node.Node.{Node}
use Rattle.format.specs.Judge.{refusal}
use Rattle.fields.specs.Reading.{judge_nodes}
use Rattle.fields.proofs.Bodies.{none_read, one_more_read, bad_node_read}
use Rattle.fields.proofs.body.read_nodes.Goals as goal

pub loop-rest-init : goal.loop-rest-init
loop-rest-init c = none_read c.args.header.labels c.args.header.words c.args.body.now (vec_items c.new-nodes.result) c.new-nodes.ensures.items

pub returns-in_err-kind : goal.returns-in_err-kind
returns-in_err-kind c =
    let no = c.in_err-kind.ensures.ok_part in
    let p = err_from_is_err_and c.from_residual.result c.from_residual.ensures.1 in
    let named : ◌≡◌ {A = Result Kind Refusal} (Err c.in_err-kind.field-0.0) (Err (refusal broken.Name c.len.result))
    = c.in_err-kind.ensures.value ∙ ap (λ (o : Option Kind). ok_or o (refusal broken.Name c.len.result)) no in
    let same : c.in_err-kind.field-0.0 ≡ refusal broken.Name c.len.result = cc in
    rw (p.1, p.2, same) (ap judge_nodes (bad_node_read c.args.header.labels c.args.header.words c.args.body.now (vec_items c.loop-rest.nodes) c.loop-rest.rest.now c.pair.result
    (omega arith) c.loop-rest.invariant c.pair.ensures (sym no ∙ c.kind.ensures))
    ∙ ap (λ (n : ℕ). Err (refusal broken.Name n)) (sym (c.len.ensures ∙ c.loop-rest.nodes.ok.0)))

pub loop-rest-preserved : goal.loop-rest-preserved
loop-rest-preserved c =
    let ns = vec_items c.loop-rest.nodes in
    let k = c.in_ok-kind.kind in
    one_more_read c.args.header.labels c.args.header.words c.args.body.now ns (vec_items c.push.new.self) c.loop-rest.rest.now k c.pair.result
    (omega arith) c.loop-rest.invariant c.pair.ensures (sym c.in_ok-kind.ensures.ok_part ∙ c.kind.ensures)
    (pushed (c.fresh.result ∷ []) refl c.in_ok-push.was c.push.ensures.items ∙ ap (λ (v : Node). ns ++ (v ∷ [])) c.fresh.ensures)
