use Rattle.std.proofs.Common.{refl}
use Rattle.format.proofs.known_grammar.Goals as goal

pub returns : goal.returns
returns c = refl
