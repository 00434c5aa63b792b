-- What adding one record to a distinct list answers and writes.
use Rattle.std.specs.Prelude.{ℕ, Bool, cond, List, length, take, Some, None, Ok, Err, Option, Result, nat_le, nat_lt, slice_set}
use Rattle.std.specs.List.{position_from}
use Rattle.distinct.specs.declared.Added.{Added}
use Rattle.distinct.specs.declared.Added.TheVariants.{Held, New}
use Rattle.distinct.specs.declared.NoRoom.{NoRoom}

-- the number, counted from k, of the first record of a list that is the same as x
abbrev pub first_same : {R : Type 0} → (R → R → Bool) → ℕ → List R → R → Option ℕ
first_same s k ys x = position_from (λ y. s y x) k ys

-- the answer of a list that has no room
abbrev pub no_room : Result Added NoRoom
no_room = Err (record {})

-- the answer, by the number of the same held record, at `held` records with room for `cap`
abbrev pub answer_at : Option ℕ → ℕ → ℕ → Result Added NoRoom
answer_at (Some k) held cap = Ok (Held k)
answer_at None held cap = cond (nat_lt held cap) (Ok (New held)) no_room

-- the answer where the records `held` are held, with room for `cap`
abbrev pub answer_in : {R : Type 0} → (R → R → Bool) → ℕ → List R → R → Result Added NoRoom
answer_in s cap held x = answer_at (first_same s 0 held x) (length held) cap

-- the answer where the first h records of the memory m are held: none has room above the memory's length
abbrev pub answer : {R : Type 0} → (R → R → Bool) → List R → ℕ → R → Result Added NoRoom
answer s m h x = cond (nat_le h (length m)) (answer_in s (length m) (take h m) x) no_room

-- the memory after an answer: only a new record is written, at its number
abbrev pub memory_after : {R : Type 0} → Result Added NoRoom → List R → R → List R
memory_after (Ok (Held k)) m x = m
memory_after (Ok (New k)) m x = slice_set m k x
memory_after (Err e) m x = m
