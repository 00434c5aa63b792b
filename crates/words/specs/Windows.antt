-- Windows over sources of words.
use Rattle.std.specs.Prelude.{◌≡◌, ℕ, ◌+◌, ◌-◌, Bool, true, cond, ◌&&◌, Ok, Err, Result, nat_le}
use Rattle.words.specs.declared.refusal.Refusal.{Refusal}
use Rattle.words.specs.declared.refusal.Refusal.TheVariants.{OutOfBounds}
use Rattle.words.specs.Meaning.{Meaning, Bounded, nothing, MeansTheSame}

-- whether a window goes forward and lies within a source with last position n
abbrev pub window_fits : ℕ → ℕ → ℕ → Bool
window_fits n from to = nat_le from to && nat_le to n

-- no other window may be made
abbrev pub judged_window : ℕ → ℕ → ℕ → Result Unit Refusal
judged_window n from to = cond (window_fits n from to) (Ok tt) (Err OutOfBounds)

-- the part of a source that begins at the position `first` and has the last position `last`: the edges inside, moved down
abbrev pub part_of : Meaning → ℕ → ℕ → Meaning
part_of m first last = record { last = last; edge = λ from word to. nat_le to last && m.edge (first + from) word (first + to) }

-- what a window means
abbrev pub window_meaning : Meaning → ℕ → ℕ → Meaning
window_meaning m from to = cond (window_fits m.last from to) (part_of m from (to - from)) nothing

-- a window over the whole of a source means what the source means
abbrev pub WholeMeansTheSame : Type 0
WholeMeansTheSame = (m : Meaning) → Bounded m → MeansTheSame (window_meaning m 0 m.last) m

-- a window over a window is a window over its source
abbrev pub WindowOfWindow : Type 0
WindowOfWindow = (m : Meaning) (from to first last : ℕ)
    → window_fits m.last from to ≡ true → window_fits (to - from) first last ≡ true
    → MeansTheSame (window_meaning (window_meaning m from to) first last) (window_meaning m (from + first) (from + last))
