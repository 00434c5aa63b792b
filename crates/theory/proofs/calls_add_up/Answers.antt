use Rattle.theory.proofs.Budgets as budgets
use Rattle.theory.proofs.calls_add_up.Goals as goal

pub returns : goal.returns
returns c = budgets.calls_add_up
