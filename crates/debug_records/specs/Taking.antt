-- How the twin takes the steps of a line, for their records; and what is written of a step, of a line
-- that was answered, and of all lines that are answered with one.
use Rattle.std.specs.Prelude.{◌≡◌, ℕ, ◌==◌, Bool, true, false, List, [], ◌∷◌, ◌++◌, codes, Option, Some, is_some, IfSome}
use Rattle.debug_session.specs.DebugState.{DebugState}
use Rattle.trace_json.specs.MachineState.{MachineState}
use Rattle.trace_effects.specs.declared.record_text.text.RecordText.{RecordText}
use Rattle.trace_json.specs.Moments.{ChangesKept, IsKeptBefore, IsMadeOutside, ShowsChanges, expected_at, is_copied, step_place, words_of}
use Rattle.trace_json.specs.declared.step.StepBefore.{StepBefore}
use Rattle.debug_records.specs.AnswerHeads.{answer_fields, answer_head, is_remark_use, is_reset_use, is_stepping_use}
use Rattle.debug_records.specs.AnsweredLines.{RecordedLine, RecordingState, next_line, state_behind}
use Rattle.debug_records.specs.LineRecords.{Adds, AreRecorded, AreRecords, RecordForm, answer_form, line_forms, step_forms}
use Rattle.debug_records.specs.Moments.{IsRecordText, IsSet, IsStep, moment_text}
use Rattle.debug_records.specs.Recording.{twin_machine}
use Rattle.debug_records.specs.declared.counts.LineCounts.{LineCounts}
use Rattle.debug_records.specs.declared.recorder.Twin.{Twin}
use Rattle.arm_core.specs.State.{State}
use Rattle.trace_json.specs.OtherFields.{are_others}
use Rattle.debug_records.specs.declared.answers.AnsweredLine.{AnsweredLine}

pub record IsNoText (text : RecordText) : Type 0 where
  pub bytes : text.bytes.items ≡ []
  pub follows : text.follows ≡ false

-- A step was taken from one machine to another, and what was kept before it knows all that it changed.
pub record IsTakenFrom (s t : MachineState) (before : StepBefore) : Type 0 where
  pub step : IsStep s t
  pub keeps : IsKeptBefore before s
  pub kept : ChangesKept before.memory s t

-- The same, where the core may have been set before the first step: not before a call from outside.
pub record IsStepTaken (is_first : Bool) (s t : MachineState) (before : StepBefore) : Type 0 where
  pub entered : MachineState
  pub set : IsSet s entered
  pub later : is_first ≡ false → entered ≡ s
  pub stays : IsMadeOutside before → entered ≡ s
  pub taken : IsTakenFrom entered t before

-- What is kept before a call from outside.
pub record IsMadeBefore (before : StepBefore) (s : MachineState) : Type 0 where
  pub keeps : IsKeptBefore before s
  pub copied : is_copied before.memory ≡ true

-- What differs between two machines was written, where nothing stood.
pub record IsShown (name : List ℕ) (expected : ℕ) (s t : MachineState) (changes : RecordText) : Type 0 where
  pub old : RecordText
  pub none : IsNoText old
  pub shows : ShowsChanges name expected s t old changes

-- The record of such a moment was written, between fields that say nothing of the core nor of words.
pub record IsMomentPrinted (head front changes rest : List ℕ) (old new : Option (List ℕ)) : Type 0 where
  pub others : are_others front ≡ true
  pub others_behind : are_others rest ≡ true
  pub written : Adds (IsRecordText (moment_text head front changes rest)) old new

-- The fields of a step were written, by what was kept before it and by the core as it was shown last.
pub record IsStepPushed (before : StepBefore) (reported : State) (old new : Twin) (place : Option ℕ) : Type
    0 where
  pub there : place ≡ step_place before
  pub session : new.session ≡ old.session
  pub machine : MachineState
  pub same : machine ≡ twin_machine old
  pub shows : (s e : MachineState) → reported ≡ s.cpu → words_of e ≡ words_of s → IsKeptBefore before e
      → ChangesKept before.memory e machine → ShowsChanges (codes "next")
      (expected_at (step_place before) e.cpu.pc (is_some machine.halt)) s machine old.changes new.changes

-- A step of a line was taken that is made at a place, and what differs was written.
pub record IsStepShown (is_first is_last : Bool) (s t : MachineState) (place : Option ℕ) (changes : RecordText)
    : Type 0 where
  pub entered : MachineState
  pub left : MachineState
  pub enters : IsSet s entered
  pub step : IsStep entered left
  pub leaves : IsSet left t
  pub later : is_first ≡ false → entered ≡ s
  pub earlier : is_last ≡ false → t ≡ left
  pub there : IfSome place (λ at. at ≡ entered.cpu.pc)
  pub shown : IsShown (codes "next") (expected_at place s.cpu.pc (is_some t.halt)) s t changes

-- the records of the steps of a line and of its answer: by what it asks for, how many steps it took and how
-- many were taken before it, how many are shown one by one, its number, what was counted before it, what it
-- left and was answered, and the machine before it
abbrev pub forms_by : Bool → Bool → Bool → ℕ → ℕ → ℕ → ℕ → LineCounts → DebugState → List ℕ → MachineState
    → List RecordForm
forms_by remark stepping resets taken before limit number counts after text m =
    step_forms (taken == 0) before limit taken m after.script.machine
    ++ (answer_form remark (taken == 0) resets (answer_head number
    (answer_fields remark stepping taken counts after text)) m after.script.machine ∷ [])

abbrev pub forms_behind : AnsweredLine → MachineState → DebugState → List RecordForm
forms_behind l m after = forms_by (is_remark_use l.used) (is_stepping_use l.used) (is_reset_use l.used) l.taken
    l.before l.limit l.block.now.number l.counts after l.answer.now m

-- A line that is answered by these words was recorded, and what it leaves.
pub record IsLineRecorded (line words : List ℕ) (time : Option ℕ) (at after : RecordingState)
    (old new : Option (List ℕ)) : Type 0 where
  pub records : Adds (AreRecords (line_forms line words time at)) old new
  pub state : after ≡ state_behind line words at

-- So were the line that is next and all that are answered with it.
abbrev pub IsFirstRecorded : RecordedLine → RecordingState → RecordingState → Option (List ℕ) → Option (List ℕ)
    → Type 0
IsFirstRecorded first before after old new =
    Adds (AreRecorded before.debug (Some first) after.debug (next_line after)) old new
