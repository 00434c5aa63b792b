use Rattle.derivation.proofs.ReadOff as lemmas
use Rattle.derivation.proofs.justified_items_span.Goals as goal

pub returns : goal.returns
returns c = lemmas.justified_items_span
