-- What an item's premises pick at a node of its tree.
use Rattle.std.specs.Prelude.{ℕ, zero, suc, cond, List, Some, None, Option, ◌==◌, nat_lt}
use Rattle.format.specs.declared.spot.Next.{Next}
use Rattle.format.specs.declared.spot.Next.TheVariants.{End, Bottom, Child}
use Rattle.format.specs.Parts.{Contents}
use Rattle.steps.specs.declared.item.Item.{Item}
use Rattle.steps.specs.declared.item.Origin.{Origin}
use Rattle.steps.specs.declared.item.Origin.TheVariants.{Start, Scan, Predict, Complete, AdjoinPredict, FootPredict, FootComplete, AdjoinComplete}
use Rattle.steps.specs.Items.{item_at}
use Rattle.steps.specs.Conclusions.{after}
use Rattle.walk.specs.declared.choice.Choice.{Choice}
use Rattle.walk.specs.declared.choice.Choice.TheVariants.{Stay, Adjoin}

-- the number of the child that comes next
abbrev pub number_next : Next → ℕ
number_next End = 0
number_next Bottom = 0
number_next (Child n) = n

abbrev pub node_after : Contents → Item → ℕ
node_after c x = number_next (after c x)

-- The dot was moved past node m: nodes before m belong to the item before, m itself was picked here, and later nodes lie below m.
abbrev pub around : (ℕ → Option Choice) → (n m : ℕ) → Option Choice → (before below : ℕ) → Option Choice
around F n m here before below = cond (nat_lt n m) (F before) (cond (n == m) here (F below))

-- By the step of an item; `F` tells of its premises. A tree that was adjoined is known by the number of the item that finished it.
abbrev pub pick_by : Contents → List Item → ℕ → (ℕ → Option Choice) → Origin → Option Choice
pick_by c its n F Start = None
pick_by c its n F (Scan a) = F a
pick_by c its n F (Predict a) = None
pick_by c its n F (Complete a b) = around F n (node_after c (item_at its a)) (Some Stay) a b
pick_by c its n F (AdjoinPredict a) = None
pick_by c its n F (FootPredict a) = None
pick_by c its n F (FootComplete a b) = None
pick_by c its n F (AdjoinComplete a b d) = around F n (node_after c (item_at its d)) (Some (Adjoin (item_at its a).tree a)) d b

-- with at most h steps one above the other
abbrev pub pick_in : Contents → List Item → ℕ → ℕ → ℕ → Option Choice
pick_in c its n zero k = None
pick_in c its n (suc h) k = pick_by c its n (pick_in c its n h) (item_at its k).origin

-- what item k and its premises pick at node n
unfoldable pub pick_at : Contents → List Item → ℕ → ℕ → Option Choice
pick_at c its k n = pick_in c its n (suc k) k
