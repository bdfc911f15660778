use Rattle.std.proofs.Common.{◌≡◌, ◌-◌, ◌++◌, length}
use Rattle.arm_step.specs.Memory.{bytes_of}
use Rattle.trace_effects.specs.word_text.Stored.{word_values_from}
use Rattle.trace_effects.proofs.word_text.stored.old_words.Given as goal

-- the words that are there, and those that are left, are all
abbrev pub invariant-loop-words : goal.invariant-loop-words
invariant-loop-words l = record {
  words : l.old.items ++ word_values_from (bytes_of l.memory) l.at (l._words-end - l._words)
      ≡ word_values_from (bytes_of l.memory) l.fn.words.at l.fn.words.count;
  few : length l.old.items ≡ l._words;
}
