use Rattle.std.proofs.Common.{◌∙◌}
use Rattle.os_heap_words.proofs.ListsLemmas.Words.{freed_words}
use Rattle.os_heap_words.proofs.Writing.{still_mapped}
use Rattle.os_heap_words.proofs.words.put_free.Goals as goal

pub put-requires-clause-mapped : goal.put-requires-clause-mapped
put-requires-clause-mapped c = still_mapped _ _ c.args.at c.put_link.ensures.kept.layout c.requires.mapped

pub put-requires-2-clause-mapped : goal.put-requires-2-clause-mapped
put-requires-2-clause-mapped c = still_mapped _ _ _ (c.put.ensures.kept.layout ∙ c.put_link.ensures.kept.layout) c.requires.total_mapped

pub returns-clause-words : goal.returns-clause-words
returns-clause-words c =
    let two = rw c.saturating_sub.ensures at c.put.ensures.word in
    freed_words _ _ _ _ c.args.heap c.args.from c.args.at c.args.total c.args.next c.requires.apart c.put_link.ensures.word two c.put-2.ensures.word
