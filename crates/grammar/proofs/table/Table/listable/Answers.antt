use Rattle.std.proofs.Common.{rules, ◌∙◌, sym, nat_lt, arith}
use Rattle.std.proofs.lemmas.List.Sorted.{answers_always}
use Rattle.grammar.proofs.Lists.{rise, no_rise, rising_listable, not_rising}
use Rattle.grammar.proofs.table.Table.listable.Goals as goal

pub returns-then-is_sorted_by : goal.returns-then-is_sorted_by
returns-then-is_sorted_by c =
    let h = c.if-is_sorted_by.ensures.cases (λ x y. nat_lt x y) (answers_always _ _ _ (λ f a r g h. search rules)) in
    c.all_suit.ensures ∙ rising_listable c.args.self.now.trees.items c.args.label 0 c.args.list.now (λ p. omega arith) (λ k p. rise c.args.list.now k (h k 0 (omega arith)))

pub returns-else-is_sorted_by : goal.returns-else-is_sorted_by
returns-else-is_sorted_by c =
    let h = c.if-is_sorted_by.ensures.cases (λ x y. nat_lt x y) (answers_always _ _ _ (λ f a r g h. search rules)) in
    c.if-is_sorted_by.false ∙ sym (not_rising c.args.self.now.trees.items c.args.label 0 c.args.list.now h.0 (omega (arith, h.1)) (no_rise c.args.list.now h.0 (h.2 0)))
