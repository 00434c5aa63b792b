-- Refusals by number.
use Rattle.std.specs.Prelude.{ℕ, List, ◌++◌, codes, decimal}
use Rattle.words.specs.declared.refusal.Refusal.{Refusal}
use Rattle.words.specs.declared.refusal.Refusal.TheVariants.{OutOfBounds, ListFull}

-- the number of each refusal
abbrev pub refusal_number : Refusal → ℕ
refusal_number OutOfBounds = 15
refusal_number ListFull = 22

-- the line of a refusal
abbrev pub refusal_text : Refusal → List ℕ
refusal_text e = codes "refused " ++ decimal (refusal_number e)
