-- The tail is written.
use Rattle.std.proofs.Common.{◌∙◌, List, ℕ, ap}
use Rattle.debug_modes.specs.Session.{script_state}
use Rattle.debug_history.specs.Noted.{past_with_deed}
use Rattle.debug_history.specs.declared.act.PastDeed.TheVariants.{Bytes}
use Rattle.debug_modules.specs.Plans.{tail_address}
use Rattle.debug_modules.proofs.EnteringLemmas.{tail_put}
use Rattle.debug_modules.proofs.answering.put_tail.Goals as goal
use Rattle.debug_listing.specs.Put.{script_after_put}

pub returns-in_ok-answer-in-Ok : goal.returns-in_ok-answer-in-Ok
returns-in_ok-answer-in-Ok c =
    let images = c.args.context.now.images.now in
    let s = script_state c.args.session.now images in
    tail_put c.args.modes.now c.args.context.now.labels.now c.args.context.now.budget s (script_state c.put_bytes.new.session images)
    (script_state c.call_command.new.session images) c.args.past.now c.put.new.self c.call_command.new.past c.args.context.now.number
    c.args.entry.now c.args.bytes.now (script_after_put s tail_address c.args.bytes.now) c.in-Ok.field-0 c.call_command.new.modes
    _ _ _ (c.in-Ok.ensures images)
    (c.in_ok-put-in-Ok.ensures
    ∙ ap (λ (bytes : List ℕ). past_with_deed c.args.past.now c.args.context.now.number (Bytes tail_address bytes)) c.in_ok-kept.ensures)
    c.in_ok-answer-in-Ok.ensures
