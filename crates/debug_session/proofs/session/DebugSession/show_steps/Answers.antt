-- The first steps are taken, then those that are shown, and what is left.
use Rattle.std.proofs.Common.{◌++◌, ◌∙◌, ℕ, Some, ap, subst}
use Rattle.std.specs.Prelude.{OnOk}
use Rattle.debug_modules.specs.Acts.{moment_after_steps, moment_of_script}
use Rattle.debug_modules.specs.Again.{IsAtMoment}
use Rattle.debug_lines.specs.SteppingRequests.{stepping_request_of}
use Rattle.debug_modules.specs.Lines.{stepping_answer}
use Rattle.debug_tables.specs.Session.{script_state}
use Rattle.debug_tables.specs.State.{ScriptState}
use Rattle.debug_modules.proofs.EnteringLemmas.{anyhow}
use Rattle.debug_session.proofs.LastStepsLemmas.{traced_at}
use Rattle.debug_session.proofs.session.DebugSession.show_steps.Goals as goal

pub returns-clause-moment : goal.returns-clause-moment
returns-clause-moment c =
    let labels = c.args.self.now.labels in
    let modes = c.args.modes.now in
    let s = script_state c.args.session.now c.args.images.now in
    let images = c.steps_again.new.images in
    let m = moment_after_steps modes.stubs s.images c.args.skipped (moment_of_script s) in
    let one = script_state c.steps_again.new.session images in
    let two = script_state c.set_budget.new.self images in
    let three = script_state c.set_last.new.self images in
    let shown = script_state c.push_steps.new.session images in
    let last = script_state c.steps_again-2.new.session c.steps_again-2.new.images in
    let request = stepping_request_of c.args.command.now in
    let there = traced_at s one two three m c.args.count c.in_ok-steps_again.ensures.moment (c.set_budget.ensures images)
    (c.set_last.ensures images) in
    let same = c.in_ok-push_steps.ensures.state
    ∙ ap (λ (t : ScriptState). (stepping_answer modes labels (Some c.args.count) t request).now) there in
    subst (λ (t : ScriptState). OnOk c.steps_again-2.result (IsAtMoment t last
    (moment_after_steps modes.stubs t.images t.left (moment_of_script t)))) same
    (subst (λ (n : ℕ). OnOk c.steps_again-2.result (IsAtMoment shown last
    (moment_after_steps modes.stubs shown.images n (moment_of_script shown)))) (c.left-left.ensures images)
    c.steps_again-2.ensures.moment)

pub returns-clause-text : goal.returns-clause-text
returns-clause-text c =
    let labels = c.args.self.now.labels in
    let modes = c.args.modes.now in
    let s = script_state c.args.session.now c.args.images.now in
    let images = c.steps_again.new.images in
    let m = moment_after_steps modes.stubs s.images c.args.skipped (moment_of_script s) in
    let one = script_state c.steps_again.new.session images in
    let two = script_state c.set_budget.new.self images in
    let three = script_state c.set_last.new.self images in
    let shown = script_state c.push_steps.new.session images in
    let last = script_state c.steps_again-2.new.session c.steps_again-2.new.images in
    let request = stepping_request_of c.args.command.now in
    let there = traced_at s one two three m c.args.count c.in_ok-steps_again.ensures.moment (c.set_budget.ensures images)
    (c.set_last.ensures images) in
    let same = c.in_ok-push_steps.ensures.text
    ∙ ap (λ (t : ScriptState). c.args.text.now.items ++ (stepping_answer modes labels (Some c.args.count) t request).text) there in
    anyhow c.steps_again-2.result _ same
