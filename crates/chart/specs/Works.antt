-- A store at work.
use Rattle.std.specs.Prelude.{◌≡◌, ℕ}
use Rattle.format.specs.Parts.{Contents}
use Rattle.words.specs.Meaning.{Meaning}
use Rattle.steps.specs.Runs.{Working, worked}
use Rattle.chart.specs.declared.store.Store.{Store}
use Rattle.chart.specs.Drawn.{Grown, room_in, state_of}

-- what a store means, with so many items processed
abbrev pub working : Store → ℕ → Working
working s processed = record { state = state_of s; processed = processed }

-- The store t with b items processed is the store s with a items processed, after at most n more.
pub record Worked (c : Contents) (m : Meaning) (s t : Store) (a b n : ℕ) : Type 0 where
  pub grown : Grown s t
  pub run : working t b ≡ worked c m (room_in s) n (working s a)
