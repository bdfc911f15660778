-- By the lemmas of `taken_steps`.
use Rattle.std.proofs.Common.{◌+◌, ◌%◌, ◌^◌, refl, arith}
use Rattle.debug_modes.specs.Counting.{words_taken}
use Rattle.debug_modes.proofs.CountingLemmas.{taken_more}
use Rattle.debug_modes.proofs.counting.words_taken.Goals as goal

pub loop-words-preserved : goal.loop-words-preserved
loop-words-preserved c =
    let at = c.loop-words.at in
    let counts = c.args.counts.now in
    record {
      taken = taken_more counts at ((at + 4) % 2 ^ 32) c.args.count c.loop-words._words c.loop-words.taken c.one_if_taken-taken.result
          (words_taken counts c.args.address c.args.count) c.loop-words.invariant.taken c.one_if_taken-taken.ensures.value (omega arith) refl;
      few = omega (arith, c.loop-words.invariant.few, c.one_if_taken-taken.ensures.few);
    }
