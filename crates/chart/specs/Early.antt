-- A dot with a child after it is below 8.
use Rattle.std.specs.Prelude.{ℕ, ◌<◌, Some, None, Option}
use Rattle.format.specs.declared.spot.Next.{Next}
use Rattle.format.specs.declared.spot.Next.TheVariants.{End, Bottom, Child}

abbrev pub Early : Next → ℕ → Type 0
Early End d = Unit {0}
Early Bottom d = Unit {0}
Early (Child n) d = d < 8

abbrev pub EarlySite : Option ℕ → ℕ → Type 0
EarlySite None d = Unit {0}
EarlySite (Some n) d = d < 8
