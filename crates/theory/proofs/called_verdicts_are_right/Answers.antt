use Rattle.theory.proofs.Verdicts as verdicts
use Rattle.theory.proofs.called_verdicts_are_right.Goals as goal

pub returns : goal.returns
returns c = verdicts.called_verdicts_are_right
