-- The bytes are those that the line names.
use Rattle.std.proofs.Common.{◌∙◌, refl}
use Rattle.debug_session.specs.DebugScript.{bytes_answer}
use Rattle.debug_session.specs.Session.{debug_state}
use Rattle.debug_session.proofs.OwnLemmas.{viewed}
use Rattle.debug_session.proofs.EndLemmas.{ends_unwritten}
use Rattle.debug_tables.specs.RunError.TheVariants.{Memory}
use Rattle.debug_session.proofs.session.DebugSession.write.Goals as goal

pub returns-clause-reported : goal.returns-clause-reported
returns-clause-reported g c images =
    let old = c.args.self.now in
    let bytes = c.as_slice.ensures.value ∙ c.in_ok-bytes.ensures in
    let none = c.new-nothing.ensures.items in
    let said = c.in_ok-text.ensures in
    viewed c.view.result _ _ _ (debug_state c.write_bytes.new.self images) _ old.setting c.in_ok-text.text.items _ said.setting
    (said.shown images ∙ (λ i. bytes_answer old.setting (debug_state old images) c.args.number c.args.address (bytes i) (none i)))
    (c.view.ensures.reported images)

pub returns-in_err-bytes-clause-ends : goal.returns-in_err-bytes-clause-ends
returns-in_err-bytes-clause-ends g c = ends_unwritten g.W.Sink.has_failed c.args.sink.now c.from_residual.result Memory c.from_residual.ensures.1 refl

pub returns-in_err-text-clause-ends : goal.returns-in_err-text-clause-ends
returns-in_err-text-clause-ends g c = ends_unwritten g.W.Sink.has_failed c.args.sink.now c.from_residual-in_err-text.result Memory c.from_residual-in_err-text.ensures.1 refl

pub returns-clause-ends : goal.returns-clause-ends
returns-clause-ends g c = c.view.ensures.ends

pub returns-in_err-bytes-clause-setting : goal.returns-in_err-bytes-clause-setting
returns-in_err-bytes-clause-setting g c = refl

pub returns-in_err-text-clause-setting : goal.returns-in_err-text-clause-setting
returns-in_err-text-clause-setting g c = c.in_err-text.ensures.setting

pub returns-clause-setting : goal.returns-clause-setting
returns-clause-setting g c = c.view.ensures.setting ∙ c.in_ok-text.ensures.setting
