-- Several calls that work on one chart, each with a budget of its own, over one grammar and sources of one meaning.
use Rattle.std.specs.Prelude.{◌≡◌, ℕ, ◌+◌, ◌<◌, ◌≤◌, min, true, false, cond, List, [], ◌∷◌}
use Rattle.format.specs.Parts.{Contents}
use Rattle.words.specs.Meaning.{Meaning}
use Rattle.steps.specs.Runs.{Working, goes_on, worked, made}
use Rattle.theory.specs.Theorems.{chart}

-- A call with the budget b. A full chart refuses the call and stays as it was; any other processes at most b items.
abbrev pub after_call : Contents → Meaning → ℕ → Working → ℕ → Working
after_call c m cap w b = cond w.state.full w (worked c m cap b w)

-- calls one after the other, by their budgets
abbrev pub after_calls : Contents → Meaning → ℕ → Working → List ℕ → Working
after_calls c m cap w [] = w
after_calls c m cap w (b ∷ bs) = after_calls c m cap (after_call c m cap w b) bs

-- what a call's budget counts: nothing where the call is refused
abbrev pub counted_call : Working → ℕ → ℕ
counted_call w b = cond w.state.full 0 b

-- the sum of the budgets of the calls that are not refused
abbrev pub counted : Contents → Meaning → ℕ → Working → List ℕ → ℕ
counted c m cap w [] = 0
counted c m cap w (b ∷ bs) = counted_call w b + counted c m cap (after_call c m cap w b) bs

-- what calls leave of a chart just made, and the budgets that they counted
abbrev pub called : Contents → Meaning → ℕ → List ℕ → Working
called c m cap bs = after_calls c m cap (made c cap) bs

abbrev pub budgets : Contents → Meaning → ℕ → List ℕ → ℕ
budgets c m cap bs = counted c m cap (made c cap) bs

-- The most that there is to do: after n items processed, and not before, none is left to process or the chart is full.
pub record Most (c : Contents) (m : Meaning) (cap n : ℕ) : Type 0 where
  pub ends : goes_on (chart c m cap n) ≡ false
  pub goes : (k : ℕ) → k < n → goes_on (chart c m cap k) ≡ true

-- Exactly one number is the most that there is to do, and it is at most the room of the chart.
pub record OneMost (c : Contents) (m : Meaning) (cap : ℕ) : Type 0 where
  pub number : ℕ
  pub most : Most c m cap number
  pub only : (n : ℕ) → Most c m cap n → n ≡ number
  pub room : number ≤ cap

abbrev pub MostExists : Type 0
MostExists = (c : Contents) (m : Meaning) (cap : ℕ) → OneMost c m cap

-- Calls leave the chart of the sum of their budgets, or of the most that there is to do where the sum is above it, and just so many items
-- are processed.
pub record AddedUp (c : Contents) (m : Meaning) (cap n : ℕ) (bs : List ℕ) : Type 0 where
  pub same : called c m cap bs ≡ chart c m cap (min (budgets c m cap bs) n)
  pub processed : (called c m cap bs).processed ≡ min (budgets c m cap bs) n

abbrev pub CallsAddUp : Type 0
CallsAddUp = (c : Contents) (m : Meaning) (cap n : ℕ) (bs : List ℕ) → Most c m cap n → AddedUp c m cap n bs

-- Two lists of calls leave the same chart exactly if they leave as many items processed.
pub record EqualByProcessed (v w : Working) : Type 0 where
  pub to : v.processed ≡ w.processed → v ≡ w
  pub from : v ≡ w → v.processed ≡ w.processed

abbrev pub EqualCharts : Type 0
EqualCharts = (c : Contents) (m : Meaning) (cap : ℕ) (bs ds : List ℕ) → EqualByProcessed (called c m cap bs) (called c m cap ds)
