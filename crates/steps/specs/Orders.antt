-- In which order conclusions come: by the numbers of the premises.
use Rattle.std.specs.Prelude.{ℕ, zero, suc, ◌+◌, List, [], ◌∷◌, ◌++◌, take, Option}
use Rattle.std.specs.Option.{option_to_list}
use Rattle.steps.specs.declared.item.Item.{Item}
use Rattle.steps.specs.Items.{item_at}

-- f at each number below n, in order
abbrev pub upto : ℕ → (ℕ → List Item) → List Item
upto zero f = []
upto (suc n) f = upto n f ++ f n

-- what each item of a list gives, in order; the list's items are numbered from k
abbrev pub each : (ℕ → Item → List Item) → ℕ → List Item → List Item
each f k [] = []
each f k (x ∷ xs) = f k x ++ each f (k + 1) xs

-- a step with two premises, or with three: the numbers of its premises, and the items
abbrev pub PairStep : Type 0
PairStep = ℕ → Item → ℕ → Item → Option Item

abbrev pub TripleStep : Type 0
TripleStep = ℕ → Item → ℕ → Item → ℕ → Item → Option Item

-- the step f at each pair of items up to t with t in one place at least, in the order of the numbers
abbrev pub pairs : PairStep → List Item → ℕ → List Item
pairs f its t =
    each (λ a x. option_to_list (f a x t (item_at its t))) 0 (take t its)
    ++ each (λ b y. option_to_list (f t (item_at its t) b y)) 0 (take (t + 1) its)

-- t as the first of three premises, and a second one
abbrev pub block_at : TripleStep → List Item → ℕ → ℕ → Item → List Item
block_at f its t b y = each (λ c z. option_to_list (f t (item_at its t) b y c z)) 0 (take (t + 1) its)

-- the step f at each triple of items up to t with t in one place at least, in the order of the numbers: below t, the first premise leaves a step with two premises
abbrev pub triples : TripleStep → List Item → ℕ → List Item
triples f its t = each (λ a x. pairs (f a x) its t) 0 (take t its) ++ each (block_at f its t) 0 (take (t + 1) its)
