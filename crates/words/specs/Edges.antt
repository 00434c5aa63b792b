-- The edges of a word lattice.
use Rattle.std.specs.Prelude.{ℕ, Bool, true, false, cond, ◌&&◌, List, [], ◌∷◌, Some, None, Ok, Err, Option, Result, ◌==◌, nat_le, nat_lt}
use Rattle.distinct.specs.Runs.{has}
use Rattle.words.specs.declared.edge.Edge.{Edge}
use Rattle.words.specs.declared.refusal.Refusal.{Refusal}
use Rattle.words.specs.declared.refusal.Refusal.TheVariants.{OutOfBounds}
use Rattle.words.specs.Meaning.{Meaning, greatest_last, nothing}

-- an edge from its parts
abbrev pub edge_of : ℕ → ℕ → ℕ → Edge
edge_of from word to = record { from = from; word = word; to = to }

-- edges are the same that have the same parts
abbrev pub same_edge : Edge → Edge → Bool
same_edge x y = x.from == y.from && (x.word == y.word && x.to == y.to)

-- whether an edge between two positions keeps the bounds of a lattice with last position n
abbrev pub in_bounds : ℕ → ℕ → ℕ → Bool
in_bounds n from to = nat_lt from to && nat_le to n

-- the edge between two positions, where it keeps the bounds
abbrev pub edge_within : ℕ → ℕ → ℕ → ℕ → Option Edge
edge_within n from word to = cond (in_bounds n from to) (Some (edge_of from word to)) None

-- whether all edges of a list keep the bounds
abbrev pub all_inside : ℕ → List Edge → Bool
all_inside n [] = true
all_inside n (e ∷ es) = in_bounds n e.from e.to && all_inside n es

-- what a list of edges means
abbrev pub edges_mean : ℕ → List Edge → Meaning
edges_mean n es = record { last = n; edge = λ from word to. has same_edge es (edge_of from word to) }

-- a lattice may not have too great a last position
abbrev pub judged_lattice : ℕ → Result Unit Refusal
judged_lattice n = cond (nat_le n greatest_last) (Ok tt) (Err OutOfBounds)

-- what a lattice without edges means
abbrev pub empty_lattice : ℕ → Meaning
empty_lattice n = cond (nat_le n greatest_last) (record { last = n; edge = λ _ _ _. false }) nothing
