use Rattle.derivation.proofs.Main as lemmas
use Rattle.derivation.proofs.spans_exactly_when_admitted.Goals as goal

pub returns : goal.returns
returns c = lemmas.spans_exactly_when_admitted
