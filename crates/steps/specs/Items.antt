-- Items of a chart, and how steps make them.
use Rattle.std.specs.Prelude.{ℕ, ◌+◌, min, Bool, true, false, cond, ◌&&◌, List, ◌==◌, slice_index_or}
use Rattle.format.specs.declared.spot.Spot.{Spot}
use Rattle.format.specs.declared.spot.Spot.TheVariants.{Top, At}
use Rattle.steps.specs.declared.item.Item.{Item}
use Rattle.steps.specs.declared.item.Origin.{Origin}
use Rattle.steps.specs.declared.item.Origin.TheVariants.{Start}

-- what stands for a foot position that is missing
abbrev pub missing : ℕ
missing = 255

-- the greatest last position of a source that a chart takes
abbrev pub most_positions : ℕ
most_positions = 250

-- Two items are the same when all but step and premises agree.
abbrev pub same_spot : Spot → Spot → Bool
same_spot Top Top = true
same_spot Top (At n) = false
same_spot (At m) Top = false
same_spot (At m) (At n) = m == n

abbrev pub same_item : Item → Item → Bool
same_item x y =
    (x.tree == y.tree) && (same_spot x.spot y.spot && (x.dot == y.dot && (x.i == y.i && (x.j == y.j && (x.p == y.p && x.q == y.q)))))

-- The join of two foot positions: the one that is given; missing if neither is; the smaller if both are.
abbrev pub joined : ℕ → ℕ → ℕ
joined a b = cond (a == missing) b (cond (b == missing) a (min a b))

-- an item at the first dot of a place, at a position
abbrev pub fresh : ℕ → Spot → ℕ → Origin → Item
fresh t s k o = record { tree = t; spot = s; dot = 0; i = k; j = k; p = missing; q = missing; origin = o }

-- an item with its dot moved past one more child, up to position j, with these foot positions
abbrev pub moved : Item → ℕ → ℕ → ℕ → Origin → Item
moved x j p q o = record { tree = x.tree; spot = x.spot; dot = x.dot + 1; i = x.i; j = j; p = p; q = q; origin = o }

-- what stands at a number that no item has
abbrev pub blank : Item
blank = record { tree = 0; spot = Top; dot = 0; i = 0; j = 0; p = 0; q = 0; origin = Start }

abbrev pub item_at : List Item → ℕ → Item
item_at its k = slice_index_or its k blank
