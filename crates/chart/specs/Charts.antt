-- The life of a chart.
use Rattle.std.specs.Prelude.{◌≡◌, ℕ, Bool, true, cond, ◌&&◌, List, [], length, drop, is_ok, Some, None, Ok, Err, vec_items, Option, Result, ◌==◌, nat_le, nat_lt}
use Rattle.format.specs.Parts.{Contents}
use Rattle.words.specs.Meaning.{Meaning}
use Rattle.steps.specs.declared.item.Item.{Item}
use Rattle.steps.specs.Items.{most_positions, item_at}
use Rattle.steps.specs.Runs.{Working, made, worked}
use Rattle.chart.specs.declared.refusal.Refusal.{Refusal}
use Rattle.chart.specs.declared.refusal.Refusal.TheVariants as refusals
use Rattle.chart.specs.declared.store.Store.{Store}
use Rattle.chart.specs.declared.chart.Chart.{Chart}
use Rattle.chart.specs.declared.chart.Closed.{Closed}
use Rattle.chart.specs.Drawn.{Grown, contents_of, held_in, room_in}
use Rattle.chart.specs.Works.{working}

-- the greatest capacity
abbrev pub most_items : ℕ
most_items = 60000

-- The capacity is judged first, then the source's last position.
abbrev pub judged : ℕ → ℕ → Result (Unit {0}) Refusal
judged cap n = cond (nat_lt 0 cap && nat_le cap most_items) (cond (nat_le n most_positions) (Ok tt) (Err refusals.SourceTooLong)) (Err refusals.Capacity)

-- what is made of what would be refused: a full chart without items
abbrev pub refused_chart : Working
refused_chart = record { state = record { items = []; full = true }; processed = 0 }

abbrev pub making : Contents → ℕ → ℕ → Working
making c cap n = cond (is_ok (judged cap n)) (made c cap) refused_chart

-- what a chart means: its items, whether it is full, and how many are processed
abbrev pub working_in : Chart → Working
working_in x = working x.store x.processed

abbrev pub working_closed : Closed → Working
working_closed x = working_in x.chart

abbrev pub memory_in : Store → List Item
memory_in s = vec_items s.list.memory

-- a chart made over a memory: what it means, and that the memory past the held items is untouched
pub record Made (c : Contents) (v : List Item) (n : ℕ) (x : Chart) : Type 0 where
  pub means : working_in x ≡ making c (length v) n
  pub room : room_in x.store ≡ length v
  pub rest : drop x.store.list.held (memory_in x.store) ≡ drop x.store.list.held v
  pub last : x.last ≡ n

-- why work is refused: on a full chart, then where the source's last position is not that of the making
abbrev pub work_refusal : Bool → ℕ → ℕ → Option Refusal
work_refusal full last n = cond full (Some refusals.Full) (cond (n == last) None (Some refusals.OtherSource))

-- nothing of a chart has changed
pub record Unchanged (x y : Chart) : Type 0 where
  pub list : y.store.list ≡ x.store.list
  pub full : y.store.full ≡ x.store.full
  pub processed : y.processed ≡ x.processed
  pub last : y.last ≡ x.last

-- Work processes at most the budget and answers items processed and items held; a refusal leaves the chart as it was.
pub record HasWorked (m : Meaning) (budget : ℕ) (x y : Chart) (answer : ℕ × ℕ) : Type 0 where
  pub allowed : work_refusal x.store.full x.last m.last ≡ None
  pub means : working_in y ≡ worked (contents_of x.store) m (room_in x.store) budget (working_in x)
  pub processed : answer.0 ≡ y.processed
  pub held : answer.1 ≡ length (held_in y.store)
  pub grown : Grown x.store y.store
  pub last : y.last ≡ x.last

abbrev pub WorkDone : Meaning → ℕ → Chart → Chart → Result (ℕ × ℕ) Refusal → Type 0
WorkDone m budget x y (Ok r) = HasWorked m budget x y r
WorkDone m budget x y (Err e) = (work_refusal x.store.full x.last m.last ≡ Some e) × Unchanged x y

-- one item by its number
abbrev pub shown : List Item → ℕ → Result Item Refusal
shown its k = cond (nat_lt k (length its)) (Ok (item_at its k)) (Err refusals.NoSuchItem)
