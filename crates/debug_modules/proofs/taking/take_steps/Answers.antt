-- The line's answer, and what is kept of it.
use Rattle.std.proofs.Common.{◌-◌, ◌∙◌, ℕ, Option, ap}
use Rattle.debug_modes.specs.Session.{script_state}
use Rattle.debug_modes.specs.State.{ScriptState}
use Rattle.debug_history.specs.Noted.{has_returned, is_faulted}
use Rattle.debug_modes.specs.SteppingRequests.{stepping_request_of}
use Rattle.debug_modes.specs.declared.modes.DebugModes.{DebugModes}
use Rattle.debug_modules.proofs.EnteringLemmas.{note_same}
use Rattle.debug_modules.proofs.taking.take_steps.Goals as goal
use Rattle.debug_runs.specs.Lines.{stepping_answer}

pub returns : goal.returns
returns c =
    let images = c.args.images.now in
    let s = script_state c.args.session.now images in
    let m : DebugModes = c.args.modes.now in
    let request = stepping_request_of c.args.command.now in
    let shown = ap (λ (o : Option ℕ). stepping_answer m.steps c.args.labels.now o s request) c.reported-shown.ensures in
    let done = c.in_ok-answer.ensures.reported in
    let counted = c.in_ok-answer.ensures.counted in
    let state = done.state ∙ ap (λ x. x.now) shown in
    let ending = done.ended ∙ ap (λ x. x.ending) shown in
    let taken = c.saturating_sub.ensures ∙ (λ i. (c.left-left.ensures images i) - (c.left.ensures images i))
    ∙ ap (λ (x : ScriptState). s.left - x.left) state in record {
      script = state;
      modes = λ i. record m { counts = counted i };
      past = c.in_ok-note_stepping.ensures
          ∙ note_same c.args.past.now c.args.number m.steps.stubs request _ _ _ _ _ _ _ _ (c.of-before.ensures images) taken
          (c.is_faulted.ensures images ∙ ap (λ (x : ScriptState). is_faulted x.machine.halt) state)
          (c.has_returned.ensures ∙ ap has_returned (c.as_slice.ensures.value ∙ ending));
      text = done.reported ∙ ap (λ x. x.text) shown;
      printed = done.all_printed ∙ ap (λ x. x.printed) shown;
      ending = ending;
    }
