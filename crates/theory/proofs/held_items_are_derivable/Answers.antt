use Rattle.theory.proofs.Derived as derived
use Rattle.theory.proofs.held_items_are_derivable.Goals as goal

pub returns : goal.returns
returns c = derived.held_are_derivable
