use Rattle.std.proofs.Common.{◌≡◌, ℕ, ◌*◌, subst, arith}
use Rattle.arm_step.specs.Bytes.{word_at}
use Rattle.arm_step.specs.Memory.{byte_at}
use Rattle.trace_effects.specs.shown_words.Replay.{AreShownBelow}
use Rattle.trace_effects.proofs.ShownWordsLemmas.ReplayLemmas.{all_shown}
use Rattle.trace_effects.proofs.ShownWordsLemmas.WordLemmas.{both_past}
use Rattle.trace_effects.proofs.shown_words.words.changed_words.Goals as goal

pub returns : goal.returns
returns c =
    let old = word_at (byte_at c.args.before.now) in
    let new = word_at (byte_at c.args.after.now) in
    let all : 1024 * c.loop-page.page ≡ 16777216 = omega arith in
    record {
      replays = λ a aligned. all_shown old new c.loop-page.changes.items a (both_past c.args.before.now c.args.after.now)
          (subst (λ (n : ℕ). AreShownBelow old new n c.loop-page.changes.items) all c.loop-page.invariant) aligned;
    }
