-- Refusals of spelling by number.
use Rattle.std.specs.Prelude.{ℕ}
use Rattle.spelling.specs.declared.refusal.Refusal.{Refusal}
use Rattle.spelling.specs.declared.refusal.Refusal.TheVariants as refusals

abbrev pub refusal_number : Refusal → ℕ
refusal_number refusals.SmallStack = 26
refusal_number refusals.NoYes = 23
refusal_number refusals.SmallBuffer = 24
