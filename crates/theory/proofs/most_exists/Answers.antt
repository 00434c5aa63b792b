use Rattle.theory.proofs.Budgets as budgets
use Rattle.theory.proofs.most_exists.Goals as goal

pub returns : goal.returns
returns c = budgets.most_exists
