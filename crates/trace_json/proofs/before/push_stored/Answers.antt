-- The words that are listed, with what stands there now; none where the machine is halted.
use Rattle.trace_json.proofs.MomentLemmas.{halted_by, none_shown, stored_shown}
use Rattle.trace_json.proofs.before.push_stored.Goals as goal

pub returns-then-is_some : goal.returns-then-is_some
returns-then-is_some c = λ e kept.
    none_shown c.args.words.now e _ c.args.text.now kept (halted_by c.stop.result _ _ c.stop.ensures.halt c.is_some.ensures c.if-is_some.true)

pub returns : goal.returns
returns c = λ e kept.
    stored_shown c.args.words.now e _ _ c.as_slice.result.now c.in_ok-changes.changes.items c.args.text.now c.push_words.new.text
    kept c.memory.ensures.bytes c.as_slice.ensures.value c.in_ok-changes.ensures c.in_ok-push_words.ensures
