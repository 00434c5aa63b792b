use Rattle.words.proofs.RowWords.{admits_its_words}
use Rattle.words.proofs.row.Row.new.Goals as goal

pub returns-clause-admits : goal.returns-clause-admits
returns-clause-admits c = admits_its_words c.args.words.now
