-- The first sentence of a body of words.
use Rattle.std.specs.Prelude.{ℕ, cond, List, [], ◌∷◌, ◌==◌}
use Rattle.format.specs.Parts.{pair}

-- the words up to the first 0, two bytes to a word
abbrev pub first_sentence : List ℕ → List ℕ
first_sentence [] = []
first_sentence (h ∷ []) = []
first_sentence (h ∷ (l ∷ bs)) = cond (pair h l == 0) [] (pair h l ∷ first_sentence bs)
