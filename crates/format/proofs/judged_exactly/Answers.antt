use Rattle.format.proofs.GrammarExact as exact
use Rattle.format.proofs.judged_exactly.Goals as goal

pub returns : goal.returns
returns c = exact.judged_exactly
