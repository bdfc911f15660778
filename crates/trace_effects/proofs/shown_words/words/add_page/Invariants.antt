use Rattle.std.proofs.Common.{◌*◌, ◌+◌}
use Rattle.arm_step.specs.Bytes.{word_at}
use Rattle.arm_step.specs.Memory.{byte_at}
use Rattle.trace_effects.specs.shown_words.Replay.{AreShownBelow}
use Rattle.trace_effects.proofs.shown_words.words.add_page.Given as goal

abbrev pub invariant-loop-index : goal.invariant-loop-index
invariant-loop-index l = AreShownBelow (word_at (byte_at l.before)) (word_at (byte_at l.after)) (1024 * l.page + l.index) l.changes.items
