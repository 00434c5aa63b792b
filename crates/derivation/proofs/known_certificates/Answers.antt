use Rattle.std.proofs.Common.{refl}
use Rattle.derivation.proofs.known_certificates.Goals as goal

pub returns : goal.returns
returns c = (refl, refl, refl)
