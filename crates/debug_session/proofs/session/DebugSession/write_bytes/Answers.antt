-- The bytes are written or refused.
use Rattle.std.proofs.Common.{◌≡◌, ℕ, List, ap, ◌∙◌}
use Rattle.std.proofs.lemmas.Result.{IfOk-weaker}
use Rattle.debug_modules.specs.Noted.{past_with_deed}
use Rattle.debug_modules.specs.PastDeed.TheVariants.{Bytes}
use Rattle.debug_tables.specs.byte_writes.Put.{script_after_put}
use Rattle.debug_tables.specs.Answers.{refused_text}
use Rattle.debug_tables.specs.Session.{script_state}
use Rattle.debug_session.specs.DebugScript.{bytes_answer, view_answer}
use Rattle.debug_session.specs.Session.{debug_state}
use Rattle.debug_session.specs.declared.session.DebugSession.{DebugSession}
use Rattle.debug_session.proofs.SteppingLemmas.{bytes_ok, bytes_refused}
use Rattle.debug_session.proofs.session.DebugSession.write_bytes.Goals as goal

pub returns-in_ok-put-in-Ok-clause-shown : goal.returns-in_ok-put-in-Ok-clause-shown
returns-in_ok-put-in-Ok-clause-shown c images =
    let old = c.args.self.now in
    bytes_ok old.setting (debug_state old images) c.args.number c.args.address c.args.bytes.now
    c.args.done.items (script_state old.session images) (script_state c.put_bytes.new.session images) c.put.new.self
    (script_after_put (script_state old.session images) c.args.address c.args.bytes.now) c.in-Ok.field-0
    (c.in-Ok.ensures images)
    (c.in_ok-put-in-Ok.ensures ∙ ap (λ (bytes : List ℕ). past_with_deed old.past c.args.number (Bytes c.args.address bytes)) c.in_ok-kept.ensures)

pub returns-in-Err-clause-shown : goal.returns-in-Err-clause-shown
returns-in-Err-clause-shown c images =
    let old = c.args.self.now in
    let after : DebugSession = record old { session = c.put_bytes.new.session } in
    IfOk-weaker c.refused_line.result (λ text. text.items ≡ refused_text c.as_bytes.result.now)
    (λ text. view_answer old.setting (debug_state after images) text.items
    ≡ bytes_answer old.setting (debug_state old images) c.args.number c.args.address c.args.bytes.now c.args.done.items)
    (λ text said. bytes_refused old.setting (debug_state old images) c.args.number c.args.address
    c.args.bytes.now c.args.done.items (script_state c.put_bytes.new.session images)
    (script_after_put (script_state old.session images) c.args.address c.args.bytes.now) c.in-Err.fault
    text.items (c.in-Err.ensures images) (said ∙ ap refused_text (c.as_bytes.ensures.value ∙ c.name.ensures)))
    c.refused_line.ensures
