-- Edges within the bounds of their lattice, and lists of them.
use Rattle.std.proofs.Common.{◌≡◌, ℕ, Bool, true, false, ltb, leb, List, [], ◌∷◌, ◌++◌, Some, None, Ok, Err, Option, Result, sym, refl, ap, ◌∙◌}
use Rattle.std.specs.Option.{MatchOption}
use Rattle.std.proofs.lemmas.Bool.{and_parts, and_from, cond-true, false_from_ne_true, lt-ltb, le-leb, both_ways}
use Rattle.std.proofs.lemmas.Option.{none-some, cond_some}
use Rattle.distinct.specs.declared.Added.{Added}
use Rattle.distinct.specs.declared.Added.TheVariants.{Held, New}
use Rattle.distinct.specs.declared.NoRoom.{NoRoom}
use Rattle.distinct.specs.Lists.{records, held_after}
use Rattle.distinct.specs.Runs.{has}
use Rattle.words.specs.declared.edge.Edge.{Edge}
use Rattle.words.specs.declared.lattice.Lattice.{Lattice}
use Rattle.words.specs.Bounds.{lattice_bounded}
use Rattle.words.specs.Edges.{edge_of, edge_within, same_edge, in_bounds, all_inside}
use Rattle.words.specs.Lattices.{lattice_meaning}

-- an edge within the bounds has the parts that it was asked for with
pub within_some : (n from word to : ℕ) (x : Edge) → Some x ≡ edge_within n from word to
    → (in_bounds n from to ≡ true) × (x ≡ edge_of from word to)
within_some n from word to x e = let p = cond_some (in_bounds n from to) (edge_of from word to) x (sym e) in (p.0, sym p.1)

-- there is none exactly where the bounds are broken
within_none : (n from word to : ℕ) → None ≡ edge_within n from word to → in_bounds n from to ≡ false
within_none n from word to e =
    false_from_ne_true (in_bounds n from to)
    (λ t. none-some (edge_of from word to) (e ∙ cond-true (in_bounds n from to) (Some (edge_of from word to)) None t))

inside_push : (n : ℕ) (es : List Edge) (x : Edge) → all_inside n es ≡ true → in_bounds n x.from x.to ≡ true
    → all_inside n (es ++ x ∷ []) ≡ true
inside_push n [] x h b = and_from (in_bounds n x.from x.to) true b refl
inside_push n (e ∷ es) x h b =
    let p = and_parts (in_bounds n e.from e.to) (all_inside n es) h in
    and_from (in_bounds n e.from e.to) (all_inside n (es ++ x ∷ [])) p.0 (inside_push n es x p.1 b)

-- a lattice's edges after one more within the bounds was offered
pub inside_after : (n : ℕ) (es : List Edge) (x : Edge) (a : Result Added NoRoom) → all_inside n es ≡ true → in_bounds n x.from x.to ≡ true
    → all_inside n (held_after a es x) ≡ true
inside_after n es x (Ok (Held k)) h b = h
inside_after n es x (Ok (New k)) h b = inside_push n es x h b
inside_after n es x (Err e) h b = h

-- an edge against the bounds is none of the lattice's
none_outside : (l : Lattice) (from word to : ℕ) → in_bounds l.last from to ≡ false → false ≡ (lattice_meaning l).edge from word to
none_outside l from word to out =
    sym (false_from_ne_true ((lattice_meaning l).edge from word to)
    (λ t. let b = lattice_bounded l from word to t in
    both_ways (in_bounds l.last from to) out
    (and_from (ltb from to) (leb to l.last) (lt-ltb from to b.0) (le-leb to l.last b.1))))

-- a lattice has an edge that is within its bounds and held
pub has_within : (l : Lattice) (from word to : ℕ) (o : Option Edge) (r : Bool) → o ≡ edge_within l.last from word to
    → MatchOption o (r ≡ false) (λ x. r ≡ has same_edge (records l.edges) x) → r ≡ (lattice_meaning l).edge from word to
has_within l from word to None r e m = m ∙ none_outside l from word to (within_none l.last from word to e)
has_within l from word to (Some x) r e m = m ∙ ap (λ z. has same_edge (records l.edges) z) (within_some l.last from word to x e).1
