use Rattle.format.proofs.GrammarExact as exact
use Rattle.format.proofs.one_or_other.Goals as goal

pub returns : goal.returns
returns c = exact.one_or_other
