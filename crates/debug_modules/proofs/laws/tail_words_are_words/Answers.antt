use Rattle.debug_modules.proofs.TailLemmas.{tail_words_are_words}
use Rattle.debug_modules.proofs.laws.tail_words_are_words.Goals as goal

pub returns : goal.returns
returns c = tail_words_are_words
