use Rattle.os_heap_words.proofs.ListsLemmas.Words.{written}
use Rattle.os_heap_words.proofs.words.put.Goals as goal

pub returns-clause-word : goal.returns-clause-word
returns-clause-word c = written _ _ c.args.at c.args.word c.ranges.word.fits c.put_word.ensures.bytes
