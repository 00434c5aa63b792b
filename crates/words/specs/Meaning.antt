-- What a source of words means.
use Rattle.std.specs.Prelude.{◌≡◌, ℕ, ◌<◌, ◌≤◌, Bool, true, false}

-- a last position, and which word leads from which position to which
pub record Meaning : Type 0 where
  pub last : ℕ
  pub edge : ℕ → ℕ → ℕ → Bool

-- an edge leads to a later position, up to the last
abbrev pub Bounded : Meaning → Type 0
Bounded m = (from word to : ℕ) → m.edge from word to ≡ true → (from < to) × (to ≤ m.last)

-- the greatest last position of a row or a lattice
abbrev pub greatest_last : ℕ
greatest_last = 65535

-- a source with last position 0 and no edge
abbrev pub nothing : Meaning
nothing = record { last = 0; edge = λ _ _ _. false }

-- two meanings that answer every question alike
abbrev pub MeansTheSame : Meaning → Meaning → Type 0
MeansTheSame m k = (m.last ≡ k.last) × ((from word to : ℕ) → m.edge from word to ≡ k.edge from word to)
