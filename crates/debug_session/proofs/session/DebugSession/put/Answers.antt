-- The image is there or not.
use Rattle.std.proofs.Common.{ℕ, List, Option, ◌∙◌, ap, subst, refl}
use Rattle.std.specs.Prelude.{OnOk}
use Rattle.debug_session.specs.DebugScript.{bytes_answer, put_found}
use Rattle.debug_session.specs.DebugState.{IsDebugged}
use Rattle.debug_session.specs.Session.{debug_state}
use Rattle.debug_session.proofs.OwnLemmas.{view_of_text, viewed}
use Rattle.debug_session.proofs.EndLemmas.{ends_unwritten}
use Rattle.debug_tables.specs.RunError.TheVariants.{Memory}
use Rattle.debug_session.proofs.session.DebugSession.put.Goals as goal

pub returns-in_default-clause-reported : goal.returns-in_default-clause-reported
returns-in_default-clause-reported g c =
    let old = c.args.self.now in
    let images = c.args.images.now in
    subst (λ (o : Option (List ℕ)). OnOk c.view.result (IsDebugged (g.W.Sink.contents c.args.sink.now) (g.W.Sink.contents c.view.new.sink)
    (debug_state c.view.new.self images)
    (put_found old.setting (debug_state old images) c.args.number c.args.name.now c.args.address o)))
    c.in_default.ensures.bytes
    (view_of_text c.view.result _ _ (debug_state c.view.new.self images) (debug_state old images) old.setting c.in_ok-text.text.items _
    c.in_ok-text.ensures (c.view.ensures.reported images))

pub returns-clause-reported : goal.returns-clause-reported
returns-clause-reported g c =
    let old = c.args.self.now in
    let images = c.args.images.now in
    let said = c.in_ok-text-2.ensures in
    subst (λ (o : Option (List ℕ)). OnOk c.view-2.result (IsDebugged (g.W.Sink.contents c.args.sink.now)
    (g.W.Sink.contents c.view-2.new.sink) (debug_state c.view-2.new.self images)
    (put_found old.setting (debug_state old images) c.args.number c.args.name.now c.args.address o)))
    c.in-Some.ensures.bytes
    (viewed c.view-2.result _ _ _ (debug_state c.write_bytes.new.self images) _ old.setting c.in_ok-text-2.text.items _ said.setting
    (said.shown images ∙ ap (λ (xs : List ℕ). bytes_answer old.setting (debug_state old images) c.args.number c.args.address
    c.in-Some.bytes.now xs) c.in_ok-done.ensures)
    (c.view-2.ensures.reported images))

pub returns-in_err-text-clause-ends : goal.returns-in_err-text-clause-ends
returns-in_err-text-clause-ends g c = ends_unwritten g.W.Sink.has_failed c.args.sink.now c.from_residual.result Memory c.from_residual.ensures.1 refl

pub returns-in_default-clause-ends : goal.returns-in_default-clause-ends
returns-in_default-clause-ends g c = c.view.ensures.ends

pub returns-in_err-done-clause-ends : goal.returns-in_err-done-clause-ends
returns-in_err-done-clause-ends g c = ends_unwritten g.W.Sink.has_failed c.args.sink.now c.from_residual-in_err-done.result Memory c.from_residual-in_err-done.ensures.1 refl

pub returns-in_err-text-2-clause-ends : goal.returns-in_err-text-2-clause-ends
returns-in_err-text-2-clause-ends g c = ends_unwritten g.W.Sink.has_failed c.args.sink.now c.from_residual-in_err-text-2.result Memory c.from_residual-in_err-text-2.ensures.1 refl

pub returns-clause-ends : goal.returns-clause-ends
returns-clause-ends g c = c.view-2.ensures.ends

pub returns-in_err-text-clause-setting : goal.returns-in_err-text-clause-setting
returns-in_err-text-clause-setting g c = refl

pub returns-in_default-clause-setting : goal.returns-in_default-clause-setting
returns-in_default-clause-setting g c = c.view.ensures.setting

pub returns-in_err-done-clause-setting : goal.returns-in_err-done-clause-setting
returns-in_err-done-clause-setting g c = refl

pub returns-in_err-text-2-clause-setting : goal.returns-in_err-text-2-clause-setting
returns-in_err-text-2-clause-setting g c = c.in_err-text-2.ensures.setting

pub returns-clause-setting : goal.returns-clause-setting
returns-clause-setting g c = c.view-2.ensures.setting ∙ c.in_ok-text-2.ensures.setting
