use Rattle.os_heap_words.proofs.ListsLemmas.Reading.{reads_heap}
use Rattle.os_heap_words.proofs.lists.laws.heaps_are_read.Goals as goal

pub returns : goal.returns
returns c = reads_heap
