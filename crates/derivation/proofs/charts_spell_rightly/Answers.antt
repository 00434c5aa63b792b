use Rattle.derivation.proofs.Spelling as lemmas
use Rattle.derivation.proofs.charts_spell_rightly.Goals as goal

pub returns : goal.returns
returns c = lemmas.charts_spell_rightly
