-- What a chart holds after so many items processed.
use Rattle.std.specs.Prelude.{ℕ, zero, suc, ◌+◌, Bool, true, false, cond, not, ◌&&◌, List, [], ◌∷◌, ◌++◌, length, Ok, Err, Result, nat_lt}
use Rattle.distinct.specs.declared.Added.{Added}
use Rattle.distinct.specs.declared.Added.TheVariants.{Held, New}
use Rattle.distinct.specs.declared.NoRoom.{NoRoom}
use Rattle.distinct.specs.Adding.{answer_in}
use Rattle.format.specs.Parts.{Contents}
use Rattle.words.specs.Meaning.{Meaning}
use Rattle.steps.specs.declared.item.Item.{Item}
use Rattle.steps.specs.Items.{same_item}
use Rattle.steps.specs.Conclusions.{starts, conclusions}

-- the items held, in order, and whether a new item once found no room
pub record State : Type 0 where
  pub items : List Item
  pub full : Bool

-- one conclusion offered to the distinct list of items, by what the list answers
abbrev pub draw_by : List Item → Item → Result Added NoRoom → State
draw_by its x (Ok (Held k)) = record { items = its; full = false }
draw_by its x (Ok (New k)) = record { items = its ++ (x ∷ []); full = false }
draw_by its x (Err e) = record { items = its; full = true }

-- One conclusion drawn, with room for `cap` items. A full chart takes no more.
abbrev pub draw : ℕ → State → Item → State
draw cap s x = cond s.full s (draw_by s.items x (answer_in same_item cap s.items x))

abbrev pub draw_all : ℕ → State → List Item → State
draw_all cap s [] = s
draw_all cap s (x ∷ xs) = draw_all cap (draw cap s x) xs

abbrev pub nothing_drawn : State
nothing_drawn = record { items = []; full = false }

-- a chart at work: what it holds, and how many of its items are processed
pub record Working : Type 0 where
  pub state : State
  pub processed : ℕ

-- an item is left to process, and none was refused
abbrev pub goes_on : Working → Bool
goes_on w = not w.state.full && nat_lt w.processed (length w.state.items)

-- one more item processed
abbrev pub process : Contents → Meaning → ℕ → Working → Working
process c m cap w = record { state = draw_all cap w.state (conclusions c m w.state.items w.processed); processed = w.processed + 1 }

-- at most n more
abbrev pub worked : Contents → Meaning → ℕ → ℕ → Working → Working
worked c m cap zero w = w
worked c m cap (suc n) w = cond (goes_on w) (worked c m cap n (process c m cap w)) w

-- a chart just made: step 0
abbrev pub made : Contents → ℕ → Working
made c cap = record { state = draw_all cap nothing_drawn (starts c); processed = 0 }
