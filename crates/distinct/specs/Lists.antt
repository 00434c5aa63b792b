-- A distinct list in memory of its own, and what adding to it does.
use Rattle.std.specs.Prelude.{◌≡◌, ℕ, ◌≤◌, List, [], ◌∷◌, ◌++◌, length, take, drop, Ok, Err, vec_items, Result}
use Rattle.distinct.specs.declared.Added.{Added}
use Rattle.distinct.specs.declared.Added.TheVariants.{Held, New}
use Rattle.distinct.specs.declared.NoRoom.{NoRoom}
use Rattle.distinct.specs.declared.list.DistinctList.{DistinctList}
use Rattle.distinct.specs.Runs.{Listed, held_in}

-- the memory of a list, and how many records at its front are held
abbrev pub listed : {R : Type 0} → DistinctList R → Listed R
listed l = record { memory = vec_items l.memory; count = l.held }

-- the held records of a list
abbrev pub records : {R : Type 0} → DistinctList R → List R
records l = held_in (listed l)

-- the number of a record that was taken
abbrev pub number_in : Result Added NoRoom → Result ℕ NoRoom
number_in (Ok (Held k)) = Ok k
number_in (Ok (New k)) = Ok k
number_in (Err e) = Err e

-- the held records after an answer
abbrev pub held_after : {R : Type 0} → Result Added NoRoom → List R → R → List R
held_after (Ok (Held k)) xs x = xs
held_after (Ok (New k)) xs x = xs ++ (x ∷ [])
held_after (Err e) xs x = xs

-- The list m is the list l with records added: those held stay in front, and past the held records nothing is touched.
pub record Extends {R : Type 0} (l m : Listed R) : Type 0 where
  pub room : length m.memory ≡ length l.memory
  pub rest : drop m.count m.memory ≡ drop m.count l.memory
  pub grows : l.count ≤ m.count
  pub front : take l.count m.memory ≡ take l.count l.memory
