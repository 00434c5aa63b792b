use Rattle.theory.proofs.Budgets as budgets
use Rattle.theory.proofs.equal_charts.Goals as goal

pub returns : goal.returns
returns c = budgets.equal_charts
