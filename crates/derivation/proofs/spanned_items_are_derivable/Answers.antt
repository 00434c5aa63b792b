use Rattle.derivation.proofs.Main as lemmas
use Rattle.derivation.proofs.spanned_items_are_derivable.Goals as goal

pub returns : goal.returns
returns c = lemmas.spanned_items_derivable
