use Rattle.std.proofs.Common.{◌≡◌, ℕ, ◌≤◌, not, length, drop, [], is_ok, vec_items, sym, refl, ap, ◌∙◌, subst, arith}
use Rattle.distinct.specs.Runs.{Listed, held_in}
use Rattle.grammar.specs.declared.grammar.Grammar.{Grammar}
use Rattle.grammar.specs.Grammars.{contents_in}
use Rattle.steps.specs.declared.item.Item.{Item}
use Rattle.steps.specs.Items.{most_positions}
use Rattle.steps.specs.Conclusions.{starts}
use Rattle.steps.specs.Runs.{State, draw_all}
use Rattle.theory.specs.Came.{Came}
use Rattle.theory.proofs.Came.{came_starts}
use Rattle.chart.specs.Drawn.{state_of}
use Rattle.chart.specs.Charts.{judged}
use Rattle.chart.proofs.Lives.{made_by, short_by}
use Rattle.chart.proofs.chart.Chart.make.Goals as goal

pub invariant_of-result : goal.invariant_of-result
invariant_of-result g c =
    let n = (g.S.Source.meaning c.args.source.now).last in
    let cap = length (vec_items c.args.memory) in
    let f = c.is_err-refused.result in
    let d = contents_in c.args.grammar.now in
    let o : is_ok (judged cap n) ≡ not f
    = ap (λ (k : ℕ). is_ok (judged k n)) (sym (ap length c.as_slice.ensures.value)) ∙ (ap is_ok (sym c.judge.ensures) ∙ c.is_err-refused.ensures.negation) in
    let e = c.start_trees.ensures.state ∙ ap (λ (l : Listed Item). draw_all (length l.memory) (record { items = held_in l; full = f }) (starts d)) c.new.ensures in
    record {
      behind = omega arith;
      short = λ h. subst (λ (k : ℕ). k ≤ most_positions) (sym c.last_position-last.ensures) (short_by d cap n f (state_of c.start_trees.new.self) o e h);
      came = subst (λ (x : Grammar). Came (contents_in x) (state_of c.start_trees.new.self).items) (sym c.start_trees.ensures.grown.grammar)
          (subst (λ (s : State). Came d s.items) (sym e) (came_starts d cap (record { items = []; full = f }) refl));
    }

pub returns : goal.returns
returns g c =
    let n = (g.S.Source.meaning c.args.source.now).last in
    let cap = length (vec_items c.args.memory) in
    let f = c.is_err-refused.result in
    let d = contents_in c.args.grammar.now in
    let o : is_ok (judged cap n) ≡ not f
    = ap (λ (k : ℕ). is_ok (judged k n)) (sym (ap length c.as_slice.ensures.value)) ∙ (ap is_ok (sym c.judge.ensures) ∙ c.is_err-refused.ensures.negation) in
    let e = c.start_trees.ensures.state ∙ ap (λ (l : Listed Item). draw_all (length l.memory) (record { items = held_in l; full = f }) (starts d)) c.new.ensures in
    let p = c.start_trees.ensures.grown.list in
    record {
      made = record {
        means = made_by d cap n f (state_of c.start_trees.new.self) o e;
        room = p.room ∙ ap (λ (l : Listed Item). length l.memory) c.new.ensures;
        rest = p.rest ∙ ap (λ (l : Listed Item). drop c.start_trees.new.self.list.held l.memory) c.new.ensures;
        last = c.last_position-last.ensures;
      };
      grammar = c.start_trees.ensures.grown.grammar;
    }
