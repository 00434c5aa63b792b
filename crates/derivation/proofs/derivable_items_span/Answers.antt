use Rattle.derivation.proofs.Sound as lemmas
use Rattle.derivation.proofs.derivable_items_span.Goals as goal

pub returns : goal.returns
returns c = lemmas.derivable_items_span
