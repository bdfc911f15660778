-- By the lemmas that are named.
use Rattle.std.proofs.Common.{arith, refl}
use Rattle.std.proofs.lemmas.Grind.{common_steps}
use Rattle.arm_step.specs.Memory.{bytes_of}
use Rattle.profile.specs.Sums.{address_further}
use Rattle.trace_effects.specs.word_text.Stored.{word_values_from}
use Rattle.trace_effects.proofs.WordTextLemmas.StoredLemmas.{word_more, words_done}
use Rattle.trace_effects.proofs.word_text.stored.old_words.Goals as goal

pub loop-words-preserved : goal.loop-words-preserved
loop-words-preserved c =
    let b = bytes_of c.args.memory.now in
    record {
      words = rw c.push.ensures.items
          (word_more b c.loop-words.at (address_further c.loop-words.at 4) c.args.words.count c.loop-words._words c.word_or_zero.result
          c.loop-words.old.items (word_values_from b c.args.words.at c.args.words.count) c.loop-words-test.true c.word_or_zero.ensures refl
          c.loop-words.invariant.words);
      few = grind (arith, common_steps);
    }

pub returns : goal.returns
returns c =
    let b = bytes_of c.args.memory.now in
    record {
      value = words_done b c.loop-words.at c.args.words.count c.loop-words._words c.loop-words.old.items
          (word_values_from b c.args.words.at c.args.words.count) c.loop-words-test.false c.loop-words.invariant.words;
    }
