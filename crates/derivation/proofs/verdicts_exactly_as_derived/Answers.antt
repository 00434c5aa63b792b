use Rattle.derivation.proofs.Main as lemmas
use Rattle.derivation.proofs.verdicts_exactly_as_derived.Goals as goal

pub returns : goal.returns
returns c = lemmas.verdicts_exactly_as_derived
