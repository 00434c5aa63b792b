use Rattle.std.proofs.Common.{ap, ◌∙◌}
use Rattle.format.specs.Judge.{some_initial}
use Rattle.grammar.proofs.Lists.{initial_by_any}
use Rattle.grammar.proofs.table.Table.some_initial.Goals as goal

pub returns : goal.returns
returns c = c.any_initial.ensures ∙ (initial_by_any c.trees.result.now ∙ ap some_initial c.trees.ensures)
