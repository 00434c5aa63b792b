use Rattle.derivation.proofs.Unique as lemmas
use Rattle.derivation.proofs.certificates_determine.Goals as goal

pub returns : goal.returns
returns c = lemmas.certificates_determine
