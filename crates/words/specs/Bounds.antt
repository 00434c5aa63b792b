-- Each kind of source keeps the bounds of its meaning: what their `bounded` members name.
use Rattle.std.specs.Prelude.{◌≡◌, ℕ, ◌+◌, ◌<◌, true, not, ◌&&◌, List, [], ◌∷◌, length, ◌==◌, nat_le, nat_lt, slice_index, slice_index_or}
use Rattle.std.proofs.Common.{arith, ⊎_elim}
use Rattle.std.proofs.lemmas.Bool.{and_parts, or_cases, eqb-true, ltb-true, leb-true}
use Rattle.distinct.specs.Runs.{held_in, has}
use Rattle.words.specs.declared.edge.Edge.{Edge}
use Rattle.words.specs.declared.lattice.Lattice.{Lattice}
use Rattle.words.specs.Meaning.{Meaning, Bounded}
use Rattle.words.specs.Rows.{row_of}
use Rattle.words.specs.Edges.{edge_of, same_edge, in_bounds, all_inside, edges_mean}
use Rattle.words.specs.Lattices.{list_of, lattice_meaning}
use Rattle.words.specs.Windows.{part_of}

-- the parts of an edge of a row
pub record RowEdge (ws : List ℕ) (from word to : ℕ) : Type 0 where
  pub inside : from < length ws
  pub some : not (word == 0) ≡ true
  pub there : slice_index_or ws from 0 ≡ word
  pub next : to ≡ from + 1

-- an edge of a row has these parts
pub row_edge : (ws : List ℕ) (from word to : ℕ) → (row_of ws).edge from word to ≡ true → RowEdge ws from word to
row_edge ws from word to e =
    let p = and_parts (nat_lt from (length ws)) (not (word == 0) && (slice_index ws from == word && to == from + 1)) e in
    let q = and_parts (not (word == 0)) (slice_index ws from == word && to == from + 1) p.1 in
    let r = and_parts (slice_index ws from == word) (to == from + 1) q.1 in
    record {
      inside = ltb-true from (length ws) p.0;
      some = q.0;
      there = eqb-true (slice_index ws from) word r.0;
      next = eqb-true to (from + 1) r.1;
    }

-- the edges of a row lie within its bounds
pub row_bounded : (ws : List ℕ) → Bounded (row_of ws)
row_bounded ws from word to e = let h = row_edge ws from word to e in (omega arith, omega arith)

-- edges that keep the bounds are bounded
pub edges_bounded : (n : ℕ) (es : List Edge) → all_inside n es ≡ true → Bounded (edges_mean n es)
edges_bounded n [] h from word to e = let z : ◌≡◌ {A = ℕ} 0 1 = cc in absurd (omega arith)
edges_bounded n (x ∷ es) h from word to e =
    let p = and_parts (in_bounds n x.from x.to) (all_inside n es) h in
    ⊎_elim
    (λ s. let a = and_parts (x.from == from) (x.word == word && x.to == to) s in
    let b = and_parts (x.word == word) (x.to == to) a.1 in
    let i = eqb-true x.from from a.0 in
    let j = eqb-true x.to to b.1 in
    let q = and_parts (nat_lt x.from x.to) (nat_le x.to n) p.0 in
    let l = ltb-true x.from x.to q.0 in
    let g = leb-true x.to n q.1 in
    (omega arith, omega arith))
    (λ s. edges_bounded n es p.1 from word to s)
    (or_cases (same_edge x (edge_of from word to)) (has same_edge es (edge_of from word to)) e)

-- the edges of a lattice lie within its bounds
pub lattice_bounded : (l : Lattice) → Bounded (lattice_meaning l)
lattice_bounded l = edges_bounded l.last (held_in (list_of l)) l.inside

-- the edges of a part lie within its bounds
pub part_bounded : (m : Meaning) (first last : ℕ) → Bounded m → Bounded (part_of m first last)
part_bounded m first last b from word to e =
    let p = and_parts (nat_le to last) (m.edge (first + from) word (first + to)) e in
    let q = b (first + from) word (first + to) p.1 in
    let l = leb-true to last p.0 in
    let lt = q.0 in
    (omega arith, l)
