-- Word lattices: what one means, and what adding an edge does.
use Rattle.std.specs.Prelude.{◌≡◌, ℕ, Bool, cond, ◌&&◌, ◌||◌, Ok, Err, vec_items, Result}
use Rattle.distinct.specs.declared.Added.{Added}
use Rattle.distinct.specs.declared.Added.TheVariants.{Held, New}
use Rattle.distinct.specs.declared.NoRoom.{NoRoom}
use Rattle.distinct.specs.Adding.{answer}
use Rattle.distinct.specs.Lists.{listed}
use Rattle.distinct.specs.Runs.{Listed, held_in, after_offer}
use Rattle.words.specs.declared.edge.Edge.{Edge}
use Rattle.words.specs.declared.lattice.Lattice.{Lattice}
use Rattle.words.specs.declared.refusal.Refusal.{Refusal}
use Rattle.words.specs.declared.refusal.Refusal.TheVariants.{OutOfBounds, ListFull}
use Rattle.words.specs.Meaning.{Meaning}
use Rattle.words.specs.Edges.{edge_of, same_edge, in_bounds, edges_mean}

-- the distinct list of a lattice's edges
abbrev pub list_of : Lattice → Listed Edge
list_of l = listed l.edges

-- what a lattice means: its last position, and the edges held
abbrev pub lattice_meaning : Lattice → Meaning
lattice_meaning l = edges_mean l.last (held_in (list_of l))

-- the number of an edge, by what the distinct list answers
abbrev pub numbered : Result Added NoRoom → Result ℕ Refusal
numbered (Ok (Held k)) = Ok k
numbered (Ok (New k)) = Ok k
numbered (Err e) = Err ListFull

-- the answer to an edge: first its bounds are judged, then the room for a new one
abbrev pub edge_answer : Lattice → ℕ → ℕ → ℕ → Result ℕ Refusal
edge_answer l from word to =
    cond (in_bounds l.last from to) (numbered (answer same_edge (vec_items l.edges.memory) l.edges.held (edge_of from word to))) (Err OutOfBounds)

-- the list after an edge
abbrev pub list_after : Lattice → ℕ → ℕ → ℕ → Listed Edge
list_after l from word to = cond (in_bounds l.last from to) (after_offer same_edge (list_of l) (edge_of from word to)) (list_of l)

-- a source gains one edge, where it took it
abbrev pub Gains : Meaning → Bool → Edge → Meaning → Type 0
Gains m taken x k = (m.last ≡ k.last)
    × ((from word to : ℕ) → k.edge from word to ≡ (m.edge from word to || (taken && same_edge x (edge_of from word to))))
