-- The lines that take steps: RUN, STEP, CALL and LOAD as a script has them, FINISH, which takes steps
-- until the innermost frame of module code has gone back, and GOSUB, which calls a routine; traced or
-- not, with stubs and watches.
use Rattle.std.specs.Prelude.{ℕ, zero, suc, false, ◌-◌, ◌++◌, min, nat_le, List, [], codes, length, Option, Some, None}
use Rattle.profile.specs.declared.stop.Stop.{Stop}
use Rattle.debug_labels.specs.Labels.{ImageLabels}
use Rattle.debug_lines.specs.SteppingRequests.{SteppingRequest, Run, Step, Call, Load, Finish, Gosub, RunLast}
use Rattle.debug_tables.specs.MachineState.{StepOutcome}
use Rattle.debug_tables.specs.Step.{module_loaded, store_called}
use Rattle.debug_tables.specs.Answers.{refused_text}
use Rattle.debug_tables.specs.Calls.{stop_before_step_by}
use Rattle.debug_tables.specs.State.{ScriptState, Answered, answer}
use Rattle.trace_text.specs.Step.{call_start_text, load_start_text}
use Rattle.debug_runs.specs.Endings.{line_end_answer}
use Rattle.debug_runs.specs.LastSteps.{last_run}
use Rattle.debug_tables.specs.Routines.{caller_in, script_at_routine}
use Rattle.debug_runs.specs.Runs.{SteppingRun, call_run, steps_run}
use Rattle.debug_runs.specs.TraceWriter.{call_text_behind, more_text}
use Rattle.debug_runs.specs.declared.endings.EndKind.{EndKind}
use Rattle.debug_runs.specs.declared.endings.EndKind.TheVariants as kind
use Rattle.debug_tables.specs.declared.modes.StepModes.{StepModes}
use Rattle.debug_runs.specs.declared.running.RunEnd.TheVariants as end
use Rattle.debug_runs.specs.declared.running.RunGoal.TheVariants as goal

-- What a line leaves: the state, what is shown of its steps, what the guest printed, and the line's
-- usual ending, which stands behind what is shown.
pub record SteppingAnswer : Type 0 where
  pub now : ScriptState
  pub text : List ℕ
  pub printed : List ℕ
  pub ending : List ℕ

abbrev pub answer_at_once : Answered → SteppingAnswer
answer_at_once a = record { now = a.state; text = []; printed = []; ending = a.text }

abbrev pub answer_with_ending : List ℕ → List ℕ → Answered → SteppingAnswer
answer_with_ending text printed a = record { now = a.state; text = text; printed = printed; ending = a.text }

-- a line whose run is this: behind its steps stands how many more were taken than shown
abbrev pub steps_line_answer : Option ℕ → ScriptState → EndKind → SteppingRun → SteppingAnswer
steps_line_answer reported s k r =
    answer_with_ending (r.text ++ more_text reported (s.left - r.now.left)) r.printed
    (line_end_answer k r.now r.ended)

abbrev pub answer_unless : Option ℕ → ScriptState → EndKind → SteppingRun → Option Stop → SteppingAnswer
answer_unless reported s k r (Some stop) = answer_at_once (line_end_answer k s (end.Stopped stop))
answer_unless reported s k r None = steps_line_answer reported s k r

-- unless none of so many steps can be taken
abbrev pub answer_if_unhalted : Option ℕ → ScriptState → EndKind → ℕ → SteppingRun → SteppingAnswer
answer_if_unhalted reported s k most r = answer_unless reported s k r (stop_before_step_by s.machine.halt most)

-- CALL and LOAD, whose first step leaves this
abbrev pub call_line_answer : StepModes → List ImageLabels → Option ℕ → ScriptState → List ℕ → StepOutcome →
    SteppingAnswer
call_line_answer modes labels reported s start o = answer_if_unhalted reported s kind.Call s.left
    (call_run modes labels (goal.Frames (length s.machine.tables.frames)) s.left reported s
    (call_text_behind start s.machine o) o)

-- FINISH, where so many frames are open
abbrev pub finish_answer : StepModes → List ImageLabels → Option ℕ → ScriptState → ℕ → SteppingAnswer
finish_answer modes labels reported s zero = answer_at_once (answer s (refused_text (codes "NoFrame")))
finish_answer modes labels reported s (suc outer) = answer_if_unhalted reported s kind.Call s.left
    (steps_run modes labels (goal.Frames outer) s.left reported s)

unfoldable pub stepping_answer : StepModes → List ImageLabels → Option ℕ → ScriptState → SteppingRequest →
    SteppingAnswer
stepping_answer modes labels reported s Run =
    answer_if_unhalted reported s (kind.Steps false) s.left
    (steps_run modes labels goal.Nowhere s.left reported s)
stepping_answer modes labels reported s (Step count) = (let most = min count s.left in
    answer_if_unhalted reported s (kind.Steps (nat_le count s.left)) most
    (steps_run modes labels goal.Nowhere most reported s))
stepping_answer modes labels reported s (Call number) =
    call_line_answer modes labels reported s (call_start_text s.machine.cpu s.machine.store.bytes number)
    (store_called s.images s.machine number)
stepping_answer modes labels reported s (Load text) =
    call_line_answer modes labels reported s (load_start_text text) (module_loaded s.images s.machine text)
stepping_answer modes labels reported s Finish = finish_answer modes labels reported s
    (length s.machine.tables.frames)
stepping_answer modes labels reported s (Gosub address) =
    answer_if_unhalted reported s (kind.Routine (caller_in s)) s.left
    (steps_run modes labels (goal.Routine (length s.machine.tables.frames)) s.left reported
    (script_at_routine s address))
stepping_answer modes labels reported s (RunLast count) =
    answer_if_unhalted None s (kind.Steps false) s.left (last_run modes labels count s.left s)
