-- Whole runs of a distinct list: it begins empty, and is changed only by adding.
use Rattle.std.specs.Prelude.{◌≡◌, ℕ, ◌+◌, ◌<◌, ◌≤◌, Bool, false, cond, List, [], ◌∷◌, ◌++◌, length, take, drop, ◌≢◌, slice_index_or, Ok, Err, Result}
use Rattle.std.specs.List.{list_any}
use Rattle.distinct.specs.declared.Added.{Added}
use Rattle.distinct.specs.declared.Added.TheVariants.{Held, New}
use Rattle.distinct.specs.declared.NoRoom.{NoRoom}
use Rattle.distinct.specs.Adding.{answer, memory_after, no_room}

-- a distinct list: its memory, and how many records at its front are held
pub record Listed (R : Type 0) : Type 0 where
  pub memory : List R
  pub count : ℕ

-- the held records
abbrev pub held_in : {R : Type 0} → Listed R → List R
held_in l = take l.count l.memory

-- the number of held records after an answer
abbrev pub count_after : Result Added NoRoom → ℕ → ℕ
count_after (Ok (Held k)) n = n
count_after (Ok (New k)) n = n + 1
count_after (Err e) n = n

-- the list after one record was offered to `add`
abbrev pub after_offer : {R : Type 0} → (R → R → Bool) → Listed R → R → Listed R
after_offer s l x = record {
  memory = memory_after (answer s l.memory l.count x) l.memory x;
  count = count_after (answer s l.memory l.count x) l.count;
}

-- the list after records were offered one by one
abbrev pub run : {R : Type 0} → (R → R → Bool) → Listed R → List R → Listed R
run s l [] = l
run s l (x ∷ xs) = run s (after_offer s l x) xs

-- an empty list in a memory, whatever that holds
abbrev pub begun : {R : Type 0} → List R → Listed R
begun m = record { memory = m; count = 0 }

-- whether some record of a list is the same as x
abbrev pub has : {R : Type 0} → (R → R → Bool) → List R → R → Bool
has s ys x = list_any (λ y. s y x) ys

-- the first members of their classes among offers, in their order, where `before` was offered already
abbrev pub first_offers : {R : Type 0} → (R → R → Bool) → List R → List R → List R
first_offers s before [] = []
first_offers s before (x ∷ xs) =
    cond (has s before x) (first_offers s (before ++ x ∷ []) xs) (x ∷ first_offers s (before ++ x ∷ []) xs)

-- what holds of the list l after the records xs were offered to a list begun empty in the memory m
pub record Lawful {R : Type 0} (s : R → R → Bool) (m xs : List R) (l : Listed R) : Type 0 where
  -- no two held records are the same
  pub apart : (d : R) (i j : ℕ) → i < length (held_in l) → j < length (held_in l) → (i ≢ j)
      → s (slice_index_or (held_in l) i d) (slice_index_or (held_in l) j d) ≡ false
  -- the held records are the first members offered, in the order of the offers, as many as there is memory for
  pub firsts : held_in l ≡ take (length m) (first_offers s [] xs)
  -- while there is room, a class is held exactly when one of it was offered
  pub classes : length (held_in l) < length m → (y : R) → has s (held_in l) y ≡ has s xs y
  -- a record that is the same as none offered before it, where there is room, is held from then on, at the number it has then
  pub stays : (d : R) (before : List R) (x : R) (later : List R) → xs ≡ before ++ x ∷ later → has s before x ≡ false
      → length (held_in (run s (begun m) before)) < length m → slice_index_or (held_in l) (length (held_in (run s (begun m) before))) d ≡ x
  -- there is no room for a record exactly when it is the same as none held and the memory is full
  pub no_room_means : (x : R) → answer s l.memory l.count x ≡ no_room → (has s (held_in l) x ≡ false) × (length m ≤ length (held_in l))
  pub no_room_when : (x : R) → has s (held_in l) x ≡ false → length m ≤ length (held_in l) → answer s l.memory l.count x ≡ no_room
  -- the held records lie in the memory, and what lies past them is as it was
  pub inside : (l.count ≡ length (held_in l)) × (length l.memory ≡ length m)
  pub untouched : drop l.count l.memory ≡ drop l.count m

-- every run is lawful, under a sameness
abbrev pub RunsAreLawful : {R : Type 0} → (R → R → Bool) → Type 0
RunsAreLawful {R} s = (m xs : List R) → Lawful s m xs (run s (begun m) xs)
