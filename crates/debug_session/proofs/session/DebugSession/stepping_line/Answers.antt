use Rattle.std.proofs.Common.{◌∙◌, ap, refl}
use Rattle.debug_tables.specs.State.{ScriptState}
use Rattle.debug_lines.specs.SteppingRequests.{stepping_request_of}
use Rattle.debug_modules.specs.Taking.{line_steps}
use Rattle.debug_session.specs.Session.{debug_state}
use Rattle.debug_session.proofs.EndLemmas.{ends_unwritten}
use Rattle.debug_tables.specs.RunError.TheVariants.{Memory}
use Rattle.debug_session.proofs.SteppingLemmas.{answer_of_steps}
use Rattle.debug_session.proofs.session.DebugSession.stepping_line.Goals as goal

pub returns-clause-reported : goal.returns-clause-reported
returns-clause-reported g c =
    let old = c.args.self.now in
    let images = c.args.images.now in
    let request = stepping_request_of c.args.command.now in
    let at = c.set_budget.ensures images in
    let line = λ (s : ScriptState). line_steps old.modes old.labels c.args.is_traced s old.past c.args.number request in
    let done = c.in_ok-taken.ensures in
    answer_of_steps c.print_steps.result _ _ old.setting (debug_state old images) (debug_state c.print_steps.new.self images) _ _ _ _ _ _ _ _ _ _ _ _
    (done.modes ∙ ap (λ (s : ScriptState). (line s).modes) at)
    (done.past ∙ ap (λ (s : ScriptState). (line s).past) at)
    (done.script ∙ ap (λ (s : ScriptState). (line s).script) at)
    (done.text ∙ ap (λ (s : ScriptState). (line s).text) at)
    (done.printed ∙ ap (λ (s : ScriptState). (line s).printed) at)
    (done.ending ∙ ap (λ (s : ScriptState). (line s).ending) at)
    (c.print_steps.ensures.reported images)

pub returns-in_err-taken-clause-ends : goal.returns-in_err-taken-clause-ends
returns-in_err-taken-clause-ends g c = ends_unwritten g.W.Sink.has_failed c.args.sink.now c.from_residual.result Memory c.from_residual.ensures.1 refl

pub returns-clause-ends : goal.returns-clause-ends
returns-clause-ends g c = c.print_steps.ensures.ends

pub returns-in_err-taken-clause-setting : goal.returns-in_err-taken-clause-setting
returns-in_err-taken-clause-setting g c = refl

pub returns-clause-setting : goal.returns-clause-setting
returns-clause-setting g c = c.print_steps.ensures.setting
