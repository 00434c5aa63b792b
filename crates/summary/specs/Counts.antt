-- How much a grammar has.
use Rattle.std.specs.Prelude.{◌≡◌, length}
use Rattle.format.specs.Parts.{Contents}
use Rattle.summary.specs.declared.counts.Counts.{Counts}

abbrev pub Counted : Contents → Counts → Type 0
Counted g c = (c.labels ≡ g.labels) × (c.words ≡ g.words) × (c.trees ≡ length g.trees) × (c.nodes ≡ length g.nodes)
