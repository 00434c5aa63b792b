-- What a grammar holds.
use Rattle.std.specs.Prelude.{ℕ, vec_items}
use Rattle.format.specs.Parts.{Contents}
use Rattle.grammar.specs.declared.table.Table.{Table}

abbrev pub holding : ℕ → ℕ → Table → Contents
holding l w t = record { labels = l; words = w; trees = vec_items t.trees; nodes = vec_items t.nodes }
