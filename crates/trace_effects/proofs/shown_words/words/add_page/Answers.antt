use Rattle.arm_step.specs.Bytes.{word_at}
use Rattle.arm_step.specs.Memory.{byte_at}
use Rattle.trace_effects.proofs.ShownWordsLemmas.ReplayLemmas.{page_more}
use Rattle.trace_effects.proofs.shown_words.words.add_page.Goals as goal

pub returns-then-has_alike_page : goal.returns-then-has_alike_page
returns-then-has_alike_page c =
    page_more (word_at (byte_at c.args.before.now)) (word_at (byte_at c.args.after.now)) c.args.page c.args.changes.now.items
    (c.has_alike_page.ensures c.if-has_alike_page.true) c.requires.reported
