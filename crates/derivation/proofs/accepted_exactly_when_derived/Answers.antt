use Rattle.derivation.proofs.Main as lemmas
use Rattle.derivation.proofs.accepted_exactly_when_derived.Goals as goal

pub returns : goal.returns
returns c = lemmas.accepted_exactly_when_derived
