-- The code has gone back, or not.
use Rattle.std.proofs.Common.{◌∙◌, ap, sym}
use Rattle.debug_modes.specs.Session.{script_state}
use Rattle.debug_history.specs.Noted.{has_returned}
use Rattle.debug_modules.specs.Entering.{status_gone_back}
use Rattle.debug_modules.proofs.EnteringLemmas.{code_back, code_left}
use Rattle.debug_modules.proofs.entering.enter_code.Goals as goal

pub returns-then-not-has_returned : goal.returns-then-not-has_returned
returns-then-not-has_returned c =
    let images = c.args.context.now.images.now in
    code_left c.args.modes.now c.args.context.now.labels.now (script_state c.args.session.now images) (script_state c.stand_at.new.session images)
    (script_state c.take_steps.new.session images) c.args.past.now c.stand_at.new.past c.take_steps.new.past c.args.context.now.number
    c.args.entry.now c.take_steps.new.modes _ _ c.in_ok-answer.answer.ending.items
    (c.in_ok-stand_at.ensures.script images) (c.in_ok-stand_at.ensures.past images) c.in_ok-answer.ensures
    (ap has_returned (sym c.as_slice.ensures.value) ∙ sym c.has_returned.ensures ∙ c.if-not-has_returned.true)

pub returns : goal.returns
returns c =
    let images = c.args.context.now.images.now in
    code_back c.args.modes.now c.args.context.now.labels.now (script_state c.args.session.now images) (script_state c.stand_at.new.session images)
    (script_state c.take_steps.new.session images) (script_state c.put_status.new.session images)
    c.args.past.now c.stand_at.new.past c.take_steps.new.past c.put_status.new.past c.args.context.now.number
    c.args.entry.now c.take_steps.new.modes _ _ c.in_ok-answer.answer.ending.items c.status_gone_back-status.result
    (c.in_ok-stand_at.ensures.script images) (c.in_ok-stand_at.ensures.past images) c.in_ok-answer.ensures
    (ap has_returned (sym c.as_slice.ensures.value) ∙ sym c.has_returned.ensures ∙ c.if-not-has_returned.false)
    (c.status_gone_back-status.ensures ∙ (λ i. status_gone_back (c.status_of-before.ensures images i) (c.status_of.ensures images i)))
    (c.put_status.ensures.script images) c.in_ok-put_status.ensures.past
