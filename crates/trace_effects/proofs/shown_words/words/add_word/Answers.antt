use Rattle.arm_step.specs.Bytes.{word_at}
use Rattle.arm_step.specs.Memory.{byte_at}
use Rattle.trace_effects.proofs.ShownWordsLemmas.ReplayLemmas.{one_shown}
use Rattle.trace_effects.proofs.shown_words.words.add_word.Goals as goal

pub returns-in_ok-push : goal.returns-in_ok-push
returns-in_ok-push c = rw c.in_ok-push.ensures.items
    (one_shown (word_at (byte_at c.args.before.now)) (word_at (byte_at c.args.after.now)) c.args.number c.word_in-old.result c.word_in-new.result
    c.args.changes.now.items c.word_in-new.ensures c.requires.reported)
