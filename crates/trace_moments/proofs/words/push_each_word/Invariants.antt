use Rattle.std.proofs.Common.{map, take}
use Rattle.trace_moments.specs.Fields.{HasMore}
use Rattle.trace_moments.specs.WordFields.{word_text}
use Rattle.trace_moments.proofs.words.push_each_word.Given as goal

-- those so far were written
abbrev pub invariant-loop-word : goal.invariant-loop-word
invariant-loop-word l = HasMore l.fn.text l.text (map word_text (take l.word-index l.words))
