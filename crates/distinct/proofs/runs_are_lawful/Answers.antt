use Rattle.distinct.proofs.Law.{lawful}
use Rattle.distinct.proofs.runs_are_lawful.Goals as goal

pub returns : goal.returns
returns g c = lawful g.R.Same.alike g.met.R.Same.symmetric g.met.R.Same.transitive
