-- One word more.
use Rattle.std.proofs.Common.{arith}
use Rattle.trace_effects.specs.declared.shown_words.words.ShownWord.{ShownWord}
use Rattle.trace_moments.specs.WordFields.{word_text}
use Rattle.trace_moments.proofs.FieldLemmas.{mapped_more}
use Rattle.trace_moments.proofs.words.push_each_word.Goals as goal

pub loop-word-preserved : goal.loop-word-preserved
loop-word-preserved c =
    let none : ShownWord = record { at = 0; old = 0; new = 0 } in
    mapped_more word_text c.args.text.now c.loop-word.text c.push_word.new.text c.args.words.now c.loop-word.word-index none
    (omega (arith, c.loop-word-test.true)) c.loop-word.invariant c.in_ok-push_word.ensures
