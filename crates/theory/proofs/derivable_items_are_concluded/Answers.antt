use Rattle.theory.proofs.Derived as derived
use Rattle.theory.proofs.derivable_items_are_concluded.Goals as goal

pub returns : goal.returns
returns c = derived.derivable_are_concluded
