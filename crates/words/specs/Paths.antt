-- Paths through a source, and the lists of words that it admits.
use Rattle.std.specs.Prelude.{◌≡◌, ℕ, true, List, [], ◌∷◌, ◌++◌}
use Rattle.words.specs.Meaning.{Meaning}

-- edges with these words lead from one position to another
abbrev pub Path : Meaning → ℕ → List ℕ → ℕ → Type 0
Path m from [] to = from ≡ to
Path m from (w ∷ ws) to = (next : ℕ) × (m.edge from w next ≡ true) × Path m next ws to

-- a source admits the words that lead from 0 to its last position
abbrev pub Admits : Meaning → List ℕ → Type 0
Admits m ws = Path m 0 ws m.last

-- a source admits the empty list exactly when its last position is 0
abbrev pub EmptyAtZero : Type 0
EmptyAtZero = (m : Meaning) → (Admits m [] → m.last ≡ 0) × (m.last ≡ 0 → Admits m [])

-- a path splits wherever its words do
abbrev pub PathsSplit : Type 0
PathsSplit = (m : Meaning) (ws vs : List ℕ) (from to : ℕ) → Path m from (ws ++ vs) to
    → (mid : ℕ) × Path m from ws mid × Path m mid vs to

-- a path splits at each word into what leads to it, its edge, and what follows
abbrev pub PathsSplitAtWord : Type 0
PathsSplitAtWord = (m : Meaning) (ws vs : List ℕ) (w from to : ℕ) → Path m from (ws ++ w ∷ vs) to
    → (mid : ℕ) × (next : ℕ) × Path m from ws mid × (m.edge mid w next ≡ true) × Path m next vs to

-- a path that ends where another begins joins with it
abbrev pub PathsJoin : Type 0
PathsJoin = (m : Meaning) (ws vs : List ℕ) (from mid to : ℕ) → Path m from ws mid → Path m mid vs to → Path m from (ws ++ vs) to
