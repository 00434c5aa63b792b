-- The parts of a case's line.
use Rattle.std.specs.Prelude.{◌≡◌, ℕ, ◌<◌, ◌⊎◌, List, [], ◌∷◌, ◌++◌, length, ◌≢◌, slice_index}

abbrev pub FreeOf : ℕ → List ℕ → Type 0
FreeOf c xs = (i : ℕ) → i < length xs → slice_index xs i ≢ c

-- The name goes up to the first space, and the tokens are what comes behind it; where there is no space, there are no tokens.
abbrev pub Parted : List ℕ → List ℕ → List ℕ → Type 0
Parted line name tokens = FreeOf 32 name × ((line ≡ name ++ (32 ∷ tokens)) ⊎ ((line ≡ name) × (tokens ≡ [])))
