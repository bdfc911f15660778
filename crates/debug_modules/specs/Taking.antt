-- Lines that take steps, in the modes that are set, and what is kept of them.
use Rattle.std.specs.Prelude.{◌≡◌, ℕ, ◌-◌, Bool, List}
use Rattle.debug_modes.specs.MachineState.{MachineState}
use Rattle.debug_modes.specs.State.{ScriptState}
use Rattle.debug_history.specs.Noted.{has_returned, is_faulted, past_after_stepping, steps_before}
use Rattle.debug_history.specs.Past.{PastState}
use Rattle.debug_history.specs.declared.noting.SteppingNote.{SteppingNote}
use Rattle.debug_history.specs.declared.noting.StepsBefore.{StepsBefore}
use Rattle.debug_runs.specs.Labels.{ImageLabels}
use Rattle.debug_modes.specs.SteppingRequests.{SteppingRequest}
use Rattle.debug_modes.specs.Modes.{answer_of_line}
use Rattle.debug_modes.specs.declared.modes.DebugModes.{DebugModes}
use Rattle.debug_runs.specs.Lines.{SteppingAnswer, stepping_answer}
use Rattle.debug_runs.specs.Places.{places_of_line}
use Rattle.debug_runs.specs.counts.Counts.{steps_counted}

-- the modes after a line, whose steps were counted
abbrev pub modes_after : DebugModes → ScriptState → SteppingRequest → DebugModes
modes_after m s request = record m { counts = steps_counted (places_of_line m.steps s request) m.counts }

-- a line, traced or not, in the modes that are set
abbrev pub stepping_in_modes : DebugModes → List ImageLabels → Bool → ScriptState → SteppingRequest →
    SteppingAnswer
stepping_in_modes m labels is_traced s request =
    stepping_answer m.steps labels (answer_of_line m is_traced) s request

-- what is known of a line that took so many steps, where the machine stood so before, and by how it ended
abbrev pub note_of : StepsBefore → ℕ → MachineState → List ℕ → SteppingNote
note_of before taken now ending = record {
  before = before;
  taken = taken;
  has_faulted = is_faulted now.halt;
  has_returned = has_returned ending;
}

-- What a line leaves that took steps: the script, the modes and the past, what is shown of its steps, what the
-- guest printed, and the line's usual ending.
pub record LineSteps : Type 0 where
  pub script : ScriptState
  pub modes : DebugModes
  pub past : PastState
  pub text : List ℕ
  pub printed : List ℕ
  pub ending : List ℕ

abbrev pub steps_kept : DebugModes → ScriptState → PastState → ℕ → SteppingRequest → SteppingAnswer → LineSteps
steps_kept m s p number request a = record {
  script = a.now;
  modes = modes_after m s request;
  past = past_after_stepping p number m.steps.stubs
      (note_of (steps_before s.machine) (s.left - a.now.left) a.now.machine a.ending) request;
  text = a.text;
  printed = a.printed;
  ending = a.ending;
}

abbrev pub line_steps : DebugModes → List ImageLabels → Bool → ScriptState → PastState → ℕ → SteppingRequest
    → LineSteps
line_steps m labels is_traced s p number request =
    steps_kept m s p number request (stepping_in_modes m labels is_traced s request)

-- a line left this
pub record HasLineSteps (t : LineSteps) (now : ScriptState) (kept_modes : DebugModes) (kept_past : PastState)
    (shown guest_text ended : List ℕ) : Type 0 where
  pub script : now ≡ t.script
  pub modes : kept_modes ≡ t.modes
  pub past : kept_past ≡ t.past
  pub text : shown ≡ t.text
  pub printed : guest_text ≡ t.printed
  pub ending : ended ≡ t.ending
