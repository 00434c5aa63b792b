use Rattle.std.proofs.Common.{refl}
use Rattle.steps.proofs.known_sentences.Goals as goal

pub returns : goal.returns
returns c = (refl, refl, refl, refl, refl, refl, refl, refl)
