-- The first field of bytes.
use Rattle.std.specs.Prelude.{◌≡◌, ℕ, ◌<◌, ◌≤◌, List, [], ◌∷◌, length, take, drop}
use Rattle.format.specs.Parts.{pair}

-- fewer bytes than the head has, or than the head says
abbrev pub Short : List ℕ → Type 0
Short [] = Unit {0}
Short (t ∷ []) = Unit {0}
Short (t ∷ (high ∷ [])) = Unit {0}
Short (t ∷ (high ∷ (low ∷ more))) = length more < pair high low

abbrev pub Whole : List ℕ → ℕ → List ℕ → List ℕ → Type 0
Whole [] tag body rest = ⊥
Whole (t ∷ []) tag body rest = ⊥
Whole (t ∷ (high ∷ [])) tag body rest = ⊥
Whole (t ∷ (high ∷ (low ∷ more))) tag body rest = (pair high low ≤ length more) × (tag ≡ t) × (body ≡ take (pair high low) more) × (rest ≡ drop (pair high low) more)
