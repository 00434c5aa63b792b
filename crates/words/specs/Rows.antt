-- Rows of words.
use Rattle.std.specs.Prelude.{◌≡◌, ℕ, ◌+◌, ◌<◌, ◌≤◌, cond, not, ◌&&◌, List, length, Ok, Err, Result, ◌==◌, nat_le, nat_lt, slice_index}
use Rattle.words.specs.declared.refusal.Refusal.{Refusal}
use Rattle.words.specs.declared.refusal.Refusal.TheVariants.{OutOfBounds}
use Rattle.words.specs.Meaning.{Meaning, greatest_last, nothing}
use Rattle.words.specs.Paths.{Admits}

-- a row may not have too many words
abbrev pub judged_row : List ℕ → Result Unit Refusal
judged_row ws = cond (nat_le (length ws) greatest_last) (Ok tt) (Err OutOfBounds)

-- the word w at index i leads from i to i + 1, and 0 is no word
abbrev pub row_of : List ℕ → Meaning
row_of ws = record {
  last = length ws;
  edge = λ from word to. nat_lt from (length ws) && (not (word == 0) && (slice_index ws from == word && to == from + 1));
}

-- what a row over these words means
abbrev pub row_meaning : List ℕ → Meaning
row_meaning ws = cond (nat_le (length ws) greatest_last) (row_of ws) nothing

-- a row without zeros admits its own words and no others
abbrev pub AdmitsItsWords : List ℕ → Type 0
AdmitsItsWords ws = length ws ≤ greatest_last → ((i : ℕ) → i < length ws → 0 < slice_index ws i)
    → (vs : List ℕ) → (Admits (row_meaning ws) vs → vs ≡ ws) × (vs ≡ ws → Admits (row_meaning ws) vs)
