-- The store of a chart after conclusions were drawn.
use Rattle.std.specs.Prelude.{◌≡◌, ℕ, List, length, vec_items}
use Rattle.distinct.specs.Lists.{listed, records, Extends}
use Rattle.format.specs.Parts.{Contents}
use Rattle.grammar.specs.Grammars.{contents_in}
use Rattle.steps.specs.declared.item.Item.{Item}
use Rattle.steps.specs.Runs.{State, draw_all}
use Rattle.chart.specs.declared.store.Store.{Store}

-- the items that a store holds
abbrev pub held_in : Store → List Item
held_in s = records s.list

-- the grammar that a store's items are drawn over
abbrev pub contents_of : Store → Contents
contents_of s = contents_in s.grammar.now

-- for how many items a store has room
abbrev pub room_in : Store → ℕ
room_in s = length (vec_items s.list.memory)

-- what a store means
abbrev pub state_of : Store → State
state_of s = record { items = held_in s; full = s.full }

-- The store t is the store s with items added: those held stay in front, and past the held items nothing is touched. The grammar is the same.
pub record Grown (s t : Store) : Type 0 where
  pub grammar : t.grammar.now ≡ s.grammar.now
  pub list : Extends (listed s.list) (listed t.list)

-- The store t is the store s after the conclusions xs were drawn in order.
pub record Drawn (s t : Store) (xs : List Item) : Type 0 where
  pub grown : Grown s t
  pub state : state_of t ≡ draw_all (room_in s) (state_of s) xs
