use Rattle.theory.proofs.Verdicts as verdicts
use Rattle.theory.proofs.verdicts_are_right.Goals as goal

pub returns : goal.returns
returns c = verdicts.verdicts_are_right
