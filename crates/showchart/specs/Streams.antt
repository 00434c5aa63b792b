-- The parts of the input.
use Rattle.std.specs.Prelude.{◌≡◌, ℕ, ◌%◌, ◌⊎◌, List, [], ◌∷◌, ◌++◌, length, Some, None, Option, ◌≢◌}
use Rattle.format.specs.Fields.{Short, Whole}
use Rattle.showchart.specs.declared.stream.Stream.{Stream}

-- a field's tag and its body
pub record Passing : Type 0 where
  pub tag : ℕ
  pub body : List ℕ

-- from the bytes to what is left behind these fields, none of which has tag 9
abbrev pub Passed : List Passing → List ℕ → List ℕ → Type 0
Passed [] bytes tail = bytes ≡ tail
Passed (f ∷ fs) bytes tail = (later : List ℕ) × Whole bytes f.tag f.body later × (f.tag ≢ 9) × Passed fs later tail

-- a field of tag 9 whose body is of odd length
abbrev pub OddWords : List ℕ → Type 0
OddWords tail = (body : List ℕ) × (later : List ℕ) × Whole tail 9 body later × (length body % 2 ≢ 0)

-- Behind fields without tag 9, the input is cut short or has an odd field of tag 9; or a field of tag 9 of even length, right behind the grammar's bytes.
abbrev pub Cut : List ℕ → Option Stream → Type 0
Cut bytes None = (fs : List Passing) × (tail : List ℕ) × Passed fs bytes tail × (Short tail ⊎ OddWords tail)
Cut bytes (Some s) =
    (fs : List Passing) × (tail : List ℕ) × (later : List ℕ) × Passed fs bytes tail × (bytes ≡ s.grammar.now ++ tail) × Whole tail 9 s.words.now later × (length s.words.now % 2 ≡ 0)
