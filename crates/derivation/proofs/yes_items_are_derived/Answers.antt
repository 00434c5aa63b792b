use Rattle.derivation.proofs.Main as lemmas
use Rattle.derivation.proofs.yes_items_are_derived.Goals as goal

pub returns : goal.returns
returns c = lemmas.yes_items_are_derived
