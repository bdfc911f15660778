-- What a trace and a debugger's modes leave as it is.
use Rattle.std.specs.Prelude.{◌≡◌, ◌≤◌, ℕ, true, false, List, ◌++◌, Option, None, Some, IsSome}
use Rattle.std.specs.List.{flat_map}
use Rattle.debug_labels.specs.Labels.{ImageLabels}
use Rattle.debug_tables.specs.Script.{request_answer}
use Rattle.debug_tables.specs.State.{Answered, ScriptState}
use Rattle.debug_lines.specs.Requests as script
use Rattle.debug_lines.specs.SteppingRequests.{SteppingRequest, Run, Step, Call, Load, RunLast}
use Rattle.debug_runs.specs.LastSteps.{texts_of_run, whole_text}
use Rattle.debug_runs.specs.Lines.{SteppingAnswer, stepping_answer}
use Rattle.debug_runs.specs.Runs.{steps_run}
use Rattle.debug_runs.specs.declared.running.RunGoal.TheVariants.{Nowhere}
use Rattle.debug_tables.specs.Modes.{are_plain}
use Rattle.debug_tables.specs.declared.modes.StepModes.{StepModes}

-- all but what is shown of the steps
pub record IsSameLine (t u : SteppingAnswer) : Type 0 where
  pub now : t.now ≡ u.now
  pub printed : t.printed ≡ u.printed
  pub ending : t.ending ≡ u.ending

-- A traced line leaves the state that it leaves untraced, prints the same and has the same ending.
abbrev pub TracedLineIsTheLine : Type 0
TracedLineIsTheLine = (modes : StepModes) (labels : List ImageLabels) (limit : ℕ) (s : ScriptState)
    (r : SteppingRequest)
    → IsSameLine (stepping_answer modes labels (Some limit) s r) (stepping_answer modes labels None s r)

-- TRACE LAST is a RUN: it leaves the same state, prints the same and has the same ending.
abbrev pub LastStepsAreOfTheRun : Type 0
LastStepsAreOfTheRun =
    (modes : StepModes) (labels : List ImageLabels) (reported : Option ℕ) (count : ℕ) (s : ScriptState)
    → IsSameLine (stepping_answer modes labels reported s (RunLast count))
    (stepping_answer modes labels None s Run)

-- The steps of which it shows the last ones are those that a trace of the whole run shows.
abbrev pub TextsAreOfTheTrace : Type 0
TextsAreOfTheTrace =
    (modes : StepModes) (labels : List ImageLabels) (most limit : ℕ) (s : ScriptState) → most ≤ limit
    → (steps_run modes labels Nowhere most (Some limit) s).text
    ≡ flat_map whole_text (texts_of_run modes labels most s)

-- a line's answer: what is shown, and behind it the ending
pub record IsScriptAnswer (t : SteppingAnswer) (a : Answered) : Type 0 where
  pub state : t.now ≡ a.state
  pub text : t.text ++ t.ending ≡ a.text

-- a machine that is halted has taken a step, and is fresh no more
abbrev pub IsFreshUnhalted : ScriptState → Type 0
IsFreshUnhalted s = IsSome s.machine.halt → s.is_fresh ≡ false

-- RUN, STEP, CALL and LOAD are answered as in a script.
pub record AreScriptLines (modes : StepModes) (labels : List ImageLabels) (s : ScriptState) (number : ℕ)
    (block : List (List ℕ)) : Type 0 where
  pub run : IsScriptAnswer (stepping_answer modes labels None s Run) (request_answer s number script.Run block)
  pub step : (count : ℕ) → IsScriptAnswer (stepping_answer modes labels None s (Step count))
      (request_answer s number (script.Step count) block)
  pub call : (called : ℕ) → IsScriptAnswer (stepping_answer modes labels None s (Call called))
      (request_answer s number (script.Call called) block)
  pub load : (text : List ℕ) → IsScriptAnswer (stepping_answer modes labels None s (Load text))
      (request_answer s number (script.Load text) block)

-- With no stub and no watch, untraced lines are those of a script.
abbrev pub PlainLinesAreTheScripts : Type 0
PlainLinesAreTheScripts = (modes : StepModes) (labels : List ImageLabels) (s : ScriptState) (number : ℕ)
    (block : List (List ℕ))
    → are_plain modes ≡ true → IsFreshUnhalted s → AreScriptLines modes labels s number block
