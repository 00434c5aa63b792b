use Rattle.words.proofs.PathFacts.{split, split_at_word, join}
use Rattle.words.proofs.source.admits_empty.Goals as goal

pub returns-clause-splits : goal.returns-clause-splits
returns-clause-splits g c = split

pub returns-clause-splits_at_word : goal.returns-clause-splits_at_word
returns-clause-splits_at_word g c = split_at_word

pub returns-clause-joins : goal.returns-clause-joins
returns-clause-joins g c = join
