-- Refusals of a chart by number.
use Rattle.std.specs.Prelude.{ℕ, List, ◌++◌, codes, decimal}
use Rattle.chart.specs.declared.refusal.Refusal.{Refusal}
use Rattle.chart.specs.declared.refusal.Refusal.TheVariants as refusals

abbrev pub refusal_number : Refusal → ℕ
refusal_number refusals.Capacity = 13
refusal_number refusals.SourceTooLong = 14
refusal_number refusals.Full = 20
refusal_number refusals.OtherSource = 21
refusal_number refusals.NoSuchItem = 25

-- the line of a refusal
abbrev pub refusal_text : Refusal → List ℕ
refusal_text e = codes "refused " ++ decimal (refusal_number e)
