use Rattle.theory.proofs.Derived as derived
use Rattle.theory.proofs.conclusions_are_the_steps.Goals as goal

pub returns : goal.returns
returns c = derived.conclusions_are_the_steps
