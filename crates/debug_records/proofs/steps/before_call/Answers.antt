-- All is copied before a call from outside.
use Rattle.debug_records.specs.Taking.{IsMadeBefore}
use Rattle.trace_json.specs.GuestState.{state_of}
use Rattle.debug_records.proofs.RecordLemmas.{if_ok_both}
use Rattle.debug_records.proofs.steps.before_call.Goals as goal

pub returns-in-Swi : goal.returns-in-Swi
returns-in-Swi c =
    if_ok_both c.call.result _ _ (λ before. IsMadeBefore before (state_of c.args.machine.now.guest))
    (λ before keeps copied. record { keeps = keeps; copied = copied })
    c.call.ensures.before c.call.ensures.copied

pub returns-in-Load : goal.returns-in-Load
returns-in-Load c =
    if_ok_both c.load.result _ _ (λ before. IsMadeBefore before (state_of c.args.machine.now.guest))
    (λ before keeps copied. record { keeps = keeps; copied = copied })
    c.load.ensures.before c.load.ensures.copied
