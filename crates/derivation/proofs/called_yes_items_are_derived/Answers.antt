use Rattle.derivation.proofs.Main as lemmas
use Rattle.derivation.proofs.called_yes_items_are_derived.Goals as goal

pub returns : goal.returns
returns c = lemmas.called_yes_items_are_derived
