-- The words for the parts of an item.
use Rattle.std.specs.Prelude.{ℕ, cond, List, codes, decimal, ◌==◌}
use Rattle.steps.specs.Items.{missing}

abbrev pub foot_text : ℕ → List ℕ
foot_text k = cond (k == missing) (codes "-") (decimal k)
