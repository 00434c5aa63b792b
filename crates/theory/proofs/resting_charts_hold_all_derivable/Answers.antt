use Rattle.theory.proofs.Derived as derived
use Rattle.theory.proofs.resting_charts_hold_all_derivable.Goals as goal

pub returns : goal.returns
returns c = derived.resting_hold_all
