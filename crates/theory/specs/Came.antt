-- That each item of a list came by the step that its origin names, from items with smaller numbers: as a test on its tree, its place and its dot, whatever the positions.
use Rattle.std.specs.Prelude.{◌≡◌, ℕ, ◌+◌, ◌<◌, Bool, true, false, not, ◌&&◌, List, length, ◌==◌, nat_lt}
use Rattle.format.specs.declared.spot.Spot.{Spot}
use Rattle.format.specs.declared.spot.Spot.TheVariants.{Top, At}
use Rattle.format.specs.declared.spot.Next.{Next}
use Rattle.format.specs.declared.spot.Next.TheVariants.{End, Bottom, Child}
use Rattle.format.specs.Parts.{Contents}
use Rattle.format.specs.Judge.{adjoinable}
use Rattle.format.specs.Keeps.{node_in, is_foot}
use Rattle.steps.specs.declared.item.Item.{Item}
use Rattle.steps.specs.declared.item.Origin.{Origin}
use Rattle.steps.specs.declared.item.Origin.TheVariants.{Start, Scan, Predict, Complete, AdjoinPredict, FootPredict, FootComplete, AdjoinComplete}
use Rattle.steps.specs.Items.{same_spot, item_at}
use Rattle.steps.specs.Conclusions.{after, finished, stays, listed, whole}

-- y is x with its dot moved past one more child
abbrev pub moves : Item → Item → Bool
moves x y = y.tree == x.tree && (same_spot y.spot x.spot && y.dot == x.dot + 1)

-- a leaf comes next
abbrev pub leaf_next : Contents → ℕ → Next → Bool
leaf_next c t End = false
leaf_next c t Bottom = false
leaf_next c t (Child n) = not (adjoinable (node_in c t n).kind)

-- y is finished at the inner node or foot that comes next
abbrev pub ends_at : Contents → Item → ℕ → ℕ → Bool
ends_at c y t n = adjoinable (node_in c t n).kind && (y.tree == t && (same_spot y.spot (At n) && finished c y))

-- that node stays as it is
abbrev pub plain_next : Contents → ℕ → Item → Next → Bool
plain_next c t y End = false
plain_next c t y Bottom = false
plain_next c t y (Child n) = stays c t n && ends_at c y t n

-- or the tree of x is adjoined at it, which x has finished
abbrev pub adjoined_next : Contents → ℕ → Item → Item → Next → Bool
adjoined_next c t x y End = false
adjoined_next c t x y Bottom = false
adjoined_next c t x y (Child n) = listed c t n x.tree && (whole x && ends_at c y t n)

abbrev pub foot_spot : Contents → ℕ → Spot → Bool
foot_spot c t Top = false
foot_spot c t (At n) = is_foot (node_in c t n).kind

-- item x with the number k, by its origin; `at` gives the items by number
abbrev pub came_by : Contents → (ℕ → Item) → ℕ → Item → Origin → Bool
came_by c at k x Start = x.dot == 0
came_by c at k x (Scan a) = nat_lt a k && (moves (at a) x && leaf_next c (at a).tree (after c (at a)))
came_by c at k x (Predict a) = x.dot == 0
came_by c at k x (Complete a b) = nat_lt a k && (nat_lt b k && (moves (at a) x && plain_next c (at a).tree (at b) (after c (at a))))
came_by c at k x (AdjoinPredict a) = x.dot == 0
came_by c at k x (FootPredict a) = x.dot == 0
came_by c at k x (FootComplete a b) = foot_spot c x.tree x.spot && x.dot == 1
came_by c at k x (AdjoinComplete a b d) = nat_lt a k && (nat_lt b k && (nat_lt d k && (moves (at d) x && adjoined_next c (at d).tree (at a) (at b) (after c (at d)))))

unfoldable pub came : Contents → List Item → ℕ → Bool
came c its k = came_by c (item_at its) k (item_at its k) (item_at its k).origin

abbrev pub Came : Contents → List Item → Type 0
Came c its = (k : ℕ) → k < length its → came c its k ≡ true
