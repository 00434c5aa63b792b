-- Steps at premises, and what they give with one premise fixed and held items in the other places.
use Rattle.std.specs.Prelude.{ℕ, ◌+◌, List, ◌++◌, take, Option}
use Rattle.std.specs.Option.{option_to_list}
use Rattle.steps.specs.declared.item.Item.{Item}
use Rattle.steps.specs.Orders.{each, PairStep, TripleStep}
use Rattle.chart.specs.declared.store.Premise.{Premise}

-- a step at two premises, and at three
abbrev pub of_two : PairStep → Premise → Premise → Option Item
of_two f p q = f p.number p.item.now q.number q.item.now

abbrev pub of_three : TripleStep → Premise → Premise → Premise → Option Item
of_three f p q r = f p.number p.item.now q.number q.item.now r.number r.item.now

-- `pairs` with the premise p in one place at least
abbrev pub pairs_with : PairStep → List Item → Premise → List Item
pairs_with f its p =
    each (λ a x. option_to_list (f a x p.number p.item.now)) 0 (take p.number its)
    ++ each (λ b y. option_to_list (f p.number p.item.now b y)) 0 (take (p.number + 1) its)

-- p as the first of three premises, and a second one
abbrev pub thirds_with : TripleStep → List Item → Premise → ℕ → Item → List Item
thirds_with f its p b y = each (λ c z. option_to_list (f p.number p.item.now b y c z)) 0 (take (p.number + 1) its)

-- `triples` with the premise p in one place at least
abbrev pub triples_with : TripleStep → List Item → Premise → List Item
triples_with f its p = each (λ a x. pairs_with (f a x) its p) 0 (take p.number its) ++ each (thirds_with f its p) 0 (take (p.number + 1) its)
