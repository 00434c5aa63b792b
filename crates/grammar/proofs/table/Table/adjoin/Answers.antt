use Rattle.std.proofs.Common.{◌≡◌, ℕ, true, false, List, length, get_or, set, Option, Some, None, Ok, Err, Result, ok_or, vec_items, sym, refl, ap, ◌∙◌, subst}
use Rattle.std.proofs.lemmas.List.{get_or_read}
use Rattle.std.proofs.lemmas.Result.{err_from_is_err_and}
use Rattle.format.specs.declared.fault.Rule.{Rule}
use Rattle.format.specs.declared.fault.Rule.TheVariants as broken
use Rattle.format.specs.declared.node.Node.{Node}
use Rattle.format.specs.declared.node.Obligation.{Obligation}
use Rattle.format.specs.declared.node.Constraint.{Constraint}
use Rattle.format.specs.Parts.{no_node, label_of_kind, constrained, slot}
use Rattle.format.specs.Judge.{target, listable, needs_met, obligation_of, constraint_of}
use Rattle.grammar.proofs.Constraints.{not_found, found_slot, found_there, needs_not_met, by_list, one_set, refused, taken}
use Rattle.grammar.proofs.table.Table.adjoin.Goals as goal

-- one node of the table has the constraint
abbrev OneAt : List Node → List Node → ℕ → ℕ → List ℕ → Type 0
OneAt ns ms i p bs =
    ((get_or ms i no_node).constraint ≡ Some (constraint_of p bs)) × (length ms ≡ length ns) × ((k : ℕ) → (k ≡ i → ⊥) → get_or ms k no_node ≡ get_or ns k no_node)

pub returns-in_err-slot : goal.returns-in_err-slot
returns-in_err-slot c =
    let d = c.args.self.now in
    let p = err_from_is_err_and c.from_residual.result c.from_residual.ensures.1 in
    let named : ◌≡◌ {A = Result ℕ Rule} (Err c.in_err-slot.field-0.0) (Err broken.Target)
    = c.in_err-slot.ensures.value ∙ ap (λ (o : Option ℕ). ok_or o broken.Target) c.in_err-slot.ensures.ok_part in
    let rule : c.in_err-slot.field-0.0 ≡ broken.Target = cc in
    let none : None ≡ target (vec_items d.trees) (vec_items d.nodes) c.args.tree c.args.node = sym c.in_err-slot.ensures.ok_part ∙ c.target.ensures in
    rw (p.1, p.2, rule)
    (record { answers = (not_found (vec_items d.trees) (vec_items d.nodes) c.args.tree c.args.node 0 c.args.choice c.args.list.now none, refl, refl); touches = tt })

pub returns-in_err-obligation : goal.returns-in_err-obligation
returns-in_err-obligation c =
    let d = c.args.self.now in
    let bs = c.args.list.now in
    let p = err_from_is_err_and c.from_residual-in_err-obligation.result c.from_residual-in_err-obligation.ensures.1 in
    let r = refused (needs_met c.args.choice bs) (obligation_of c.args.choice) c.in_err-obligation.field-0.0 c.in_err-obligation.ensures in
    let found : Some c.in_ok-slot.slot ≡ target (vec_items d.trees) (vec_items d.nodes) c.args.tree c.args.node = sym c.in_ok-slot.ensures.ok_part ∙ c.target.ensures in
    rw (p.1, p.2, r.1)
    (record {
      answers = (needs_not_met (vec_items d.trees) (vec_items d.nodes) c.args.tree c.args.node c.in_ok-slot.slot c.args.choice bs found r.0, refl, refl);
      touches = tt;
    })

pub returns-then-not-listable : goal.returns-then-not-listable
returns-then-not-listable c =
    let d = c.args.self.now in
    let bs = c.args.list.now in
    let found : Some c.in_ok-slot.slot ≡ target (vec_items d.trees) (vec_items d.nodes) c.args.tree c.args.node = sym c.in_ok-slot.ensures.ok_part ∙ c.target.ensures in
    let met = taken (needs_met c.args.choice bs) (obligation_of c.args.choice) c.in_ok-obligation.obligation c.in_ok-obligation.ensures in
    let there = found_there (vec_items d.trees) (vec_items d.nodes) c.args.tree c.args.node c.in_ok-slot.slot found d.fit in
    let label = c.label-label.ensures ∙ ap (λ (v : Node). label_of_kind v.kind) (get_or_read (vec_items d.nodes) c.in_ok-slot.slot c.index.result.now there c.index.ensures no_node) in
    record {
      answers = (
        by_list (vec_items d.trees) (vec_items d.nodes) c.args.tree c.args.node c.in_ok-slot.slot c.args.choice bs found
            false met.0 (c.if-not-listable.ensures ∙ ap (λ (l : ℕ). listable (vec_items d.trees) l 0 bs) label),
        refl,
        refl,
      );
      touches = tt;
    }

pub returns : goal.returns
returns c =
    let d = c.args.self.now in
    let ns = vec_items d.nodes in
    let ms = vec_items c.constrain.new.self.nodes in
    let i = c.in_ok-slot.slot in
    let p = c.args.choice in
    let bs = c.args.list.now in
    let found : Some i ≡ target (vec_items d.trees) ns c.args.tree c.args.node = sym c.in_ok-slot.ensures.ok_part ∙ c.target.ensures in
    let met = taken (needs_met p bs) (obligation_of p) c.in_ok-obligation.obligation c.in_ok-obligation.ensures in
    let there = found_there (vec_items d.trees) (vec_items d.nodes) c.args.tree c.args.node c.in_ok-slot.slot found d.fit in
    let label = c.label-label.ensures ∙ ap (λ (v : Node). label_of_kind v.kind) (get_or_read (vec_items d.nodes) c.in_ok-slot.slot c.index.result.now there c.index.ensures no_node) in
    let W : Constraint → List Node = λ k. set ns i (constrained (get_or ns i no_node) k) in
    let nodes-are : ms ≡ W (constraint_of p bs)
    = c.constrain.ensures.nodes
    ∙ (ap (λ (o : Obligation). W (record { obligation = o; listed = c.marked.result })) met.1
    ∙ ap (λ l. W (record { obligation = obligation_of p; listed = l })) c.marked.ensures) in
    let slot_is : i ≡ slot (vec_items d.trees) c.args.tree c.args.node = found_slot (vec_items d.trees) ns c.args.tree c.args.node i found in
    record {
      answers = (
        by_list (vec_items d.trees) ns c.args.tree c.args.node i p bs found
            true met.0 (c.if-not-listable.ensures ∙ ap (λ (l : ℕ). listable (vec_items d.trees) l 0 bs) label)
            ∙ ap Ok (sym nodes-are),
        c.constrain.ensures.trees,
      );
      touches = subst (λ (j : ℕ). OneAt ns ms j p bs) slot_is (one_set ns ms i p bs there nodes-are);
    }
