-- What a line shows, from what its run shows and how it ended.
use Rattle.std.proofs.Common.{◌≡◌, ℕ, zero, suc, ◌<◌, arith, false, ◌-◌, ◌++◌, List, [], Option, Some, None, Result, Ok, Err, length, sym, ap, append_assoc, refl, subst, ◌∙◌}
use Rattle.std.proofs.lemmas.List.{append-nil}
use Rattle.std.specs.Prelude.{OnOk, min, nat_le}
use Rattle.profile.specs.declared.stop.Stop.{Stop}
use Rattle.debug_labels.specs.Labels.{ImageLabels}
use Rattle.debug_tables.specs.MachineState.{StepOutcome}
use Rattle.debug_tables.specs.Step.{module_loaded, store_called}
use Rattle.trace_text.specs.Step.{call_start_text, load_start_text}
use Rattle.debug_tables.specs.Calls.{stop_before_step_by}
use Rattle.debug_tables.specs.State.{Answered, IsAnswered, ScriptState}
use Rattle.profile.specs.text_sink.TextSink.{sink_text_of}
use Rattle.profile.specs.declared.text_sink.TextSink.{TextSink}
use Rattle.debug_runs.specs.Endings.{line_end_answer}
use Rattle.debug_lines.specs.SteppingRequests.{Run, Step, Call, Load, Finish, Gosub, RunLast}
use Rattle.debug_runs.specs.LastSteps.{last_run}
use Rattle.debug_runs.specs.Lines.{SteppingAnswer, call_line_answer, finish_answer, stepping_answer, steps_line_answer, answer_at_once, answer_if_unhalted, answer_unless, answer_with_ending}
use Rattle.debug_tables.specs.Routines.{caller_in, script_at_routine}
use Rattle.debug_runs.specs.Runs.{SteppingRun, call_run, steps_run}
use Rattle.debug_runs.specs.TraceWriter.{more_text}
use Rattle.debug_runs.specs.Reported.{HasAnswer, IsAfterStepping, IsAnswerOn}
use Rattle.debug_runs.specs.declared.endings.EndKind.{EndKind}
use Rattle.debug_runs.specs.declared.endings.EndKind.TheVariants as kind
use Rattle.debug_tables.specs.declared.modes.StepModes.{StepModes}
use Rattle.debug_runs.specs.declared.running.RunEnd.{RunEnd}
use Rattle.debug_runs.specs.declared.running.RunEnd.TheVariants as end
use Rattle.debug_runs.specs.declared.running.RunGoal.TheVariants as goal
use Rattle.debug_runs.specs.declared.writer.TraceWriter.{TraceWriter}

pub refused : (reported : Option ℕ) (s : ScriptState) (k : EndKind) (most : ℕ) (r : SteppingRun) (x : Stop) → stop_before_step_by s.machine.halt most ≡ Some x
    → answer_if_unhalted reported s k most r ≡ answer_at_once (line_end_answer k s (end.Stopped x))
refused reported s k most r x is = ap (answer_unless reported s k r) is

pub goes : (reported : Option ℕ) (s : ScriptState) (k : EndKind) (most : ℕ) (r : SteppingRun) → stop_before_step_by s.machine.halt most ≡ None
    → answer_if_unhalted reported s k most r ≡ steps_line_answer reported s k r
goes reported s k most r is = ap (answer_unless reported s k r) is

-- the same, written another way
pub has_same : {U E : Type 0} (r : Result U E) (t same : SteppingAnswer) (now : ScriptState) (old new : TraceWriter) (before after : TextSink) → same ≡ t
    → OnOk r (HasAnswer t now old new before after) → OnOk r (HasAnswer same now old new before after)
has_same r t same now old new before after is has =
    subst (λ (x : SteppingAnswer). OnOk r (HasAnswer x now old new before after)) (sym is) has

-- an answer without a step
pub at_once : {U E : Type 0} (r : Result U E) (a : Answered) (now : ScriptState) (t : TraceWriter) (before after : TextSink)
    → OnOk r (IsAnswered (Some (sink_text_of before)) (Some (sink_text_of after)) now a) → OnOk r (HasAnswer (answer_at_once a) now t t before after)
at_once (Err f) a now t before after reported = tt
at_once (Ok u) a now t before after reported = record {
  state = reported.state;
  reported = record {
    text_answer = sym (append-nil (sink_text_of t.text));
    all_printed = sym (append-nil (sink_text_of t.printed));
  };
  ended = reported.text;
}

-- an answer behind a text
pub with_ending : {U E : Type 0} (r : Result U E) (text : List ℕ) (a : Answered) (now : ScriptState) (old new : TraceWriter) (before after : TextSink)
    → IsAnswerOn old new text [] → OnOk r (IsAnswered (Some (sink_text_of before)) (Some (sink_text_of after)) now a)
    → OnOk r (HasAnswer (answer_with_ending text [] a) now old new before after)
with_ending (Err f) text a now old new before after reported ended = tt
with_ending (Ok u) text a now old new before after reported ended = record { state = ended.state; reported = reported; ended = ended.text }

-- a run, and then how it ended
pub run_shows : {U E : Type 0} (r : Result U E) (reported : Option ℕ) (s mid now : ScriptState) (k : EndKind) (run : SteppingRun) (e : RunEnd) (left : ℕ)
    (old t new : TraceWriter) (before after : TextSink)
    → IsAfterStepping run mid old t e → left ≡ s.left
    → OnOk r (HasAnswer (answer_with_ending (more_text reported (left - mid.left)) [] (line_end_answer k mid e)) now t new before after)
    → OnOk r (HasAnswer (steps_line_answer reported s k run) now old new before after)
run_shows (Err f) reported s mid now k run e left old t new before after ran is has = tt
run_shows (Ok u) reported s mid now k run e left old t new before after ran is has =
    let by_state : HasAnswer (answer_with_ending (more_text reported (left - run.now.left)) [] (line_end_answer k run.now e)) now t new before after =
    subst (λ (w : ScriptState). HasAnswer (answer_with_ending (more_text reported (left - w.left)) [] (line_end_answer k w e)) now t new before after) ran.state has in
    let by_end : HasAnswer (answer_with_ending (more_text reported (left - run.now.left)) [] (line_end_answer k run.now run.ended)) now t new before after =
    subst (λ (x : RunEnd). HasAnswer (answer_with_ending (more_text reported (left - run.now.left)) [] (line_end_answer k run.now x)) now t new before after) ran.ended by_state in
    let by : HasAnswer (answer_with_ending (more_text reported (s.left - run.now.left)) [] (line_end_answer k run.now run.ended)) now t new before after =
    subst (λ (n : ℕ). HasAnswer (answer_with_ending (more_text reported (n - run.now.left)) [] (line_end_answer k run.now run.ended)) now t new before after) is by_end in
    let more = more_text reported (s.left - run.now.left) in
    record {
      state = by.state;
      reported = record {
        text_answer = by.reported.text_answer
            ∙ (ap (λ (xs : List ℕ). xs ++ more) ran.reported.text_answer ∙ append_assoc (sink_text_of old.text) run.text more);
        all_printed = by.reported.all_printed ∙ (append-nil (sink_text_of t.printed) ∙ ran.reported.all_printed);
      };
      ended = by.ended;
    }

-- GOSUB
pub gosub_is : (modes : StepModes) (labels : List ImageLabels) (reported : Option ℕ) (s : ScriptState) (address : ℕ)
    → stepping_answer modes labels reported s (Gosub address) ≡ answer_if_unhalted reported s (kind.Routine (caller_in s)) s.left
    (steps_run modes labels (goal.Routine (length s.machine.tables.frames)) s.left reported (script_at_routine s address))
unfolding stepping_answer
gosub_is modes labels reported s address = refl

-- its run, by what was found before it
pub gosub_ran : (modes : StepModes) (labels : List ImageLabels) (reported : Option ℕ) (s entered now : ScriptState) (address frames left : ℕ) (old new : TraceWriter) (e : RunEnd)
    → frames ≡ length s.machine.tables.frames → left ≡ s.left → entered ≡ script_at_routine s address
    → IsAfterStepping (steps_run modes labels (goal.Routine frames) left reported entered) now old new e
    → IsAfterStepping (steps_run modes labels (goal.Routine (length s.machine.tables.frames)) s.left reported (script_at_routine s address)) now old new e
gosub_ran modes labels reported s entered now address frames left old new e is_frames is_left is_entered ran =
    subst (λ (r : SteppingRun). IsAfterStepping r now old new e)
    (λ i. steps_run modes labels (goal.Routine (is_frames i)) (is_left i) reported (is_entered i)) ran

-- and that of CALL and LOAD
pub call_ran : (modes : StepModes) (labels : List ImageLabels) (reported : Option ℕ) (s now : ScriptState) (text : List ℕ) (o : StepOutcome) (frames left : ℕ) (old new : TraceWriter) (e : RunEnd)
    → frames ≡ length s.machine.tables.frames → left ≡ s.left
    → IsAfterStepping (call_run modes labels (goal.Frames frames) left reported s text o) now old new e
    → IsAfterStepping (call_run modes labels (goal.Frames (length s.machine.tables.frames)) s.left reported s text o) now old new e
call_ran modes labels reported s now text o frames left old new e is_frames is_left ran =
    subst (λ (r : SteppingRun). IsAfterStepping r now old new e)
    (λ i. call_run modes labels (goal.Frames (is_frames i)) (is_left i) reported s text o) ran

-- EACH LINE'S EQUATION

pub run_is : (modes : StepModes) (labels : List ImageLabels) (reported : Option ℕ) (s : ScriptState)
    → stepping_answer modes labels reported s Run
    ≡ answer_if_unhalted reported s (kind.Steps false) s.left (steps_run modes labels goal.Nowhere s.left reported s)
unfolding stepping_answer
run_is modes labels reported s = refl

pub step_is : (modes : StepModes) (labels : List ImageLabels) (reported : Option ℕ) (s : ScriptState) (count : ℕ)
    → stepping_answer modes labels reported s (Step count)
    ≡ answer_if_unhalted reported s (kind.Steps (nat_le count s.left)) (min count s.left) (steps_run modes labels goal.Nowhere (min count s.left) reported s)
unfolding stepping_answer
step_is modes labels reported s count = refl

pub call_is : (modes : StepModes) (labels : List ImageLabels) (reported : Option ℕ) (s : ScriptState) (number : ℕ)
    → stepping_answer modes labels reported s (Call number)
    ≡ call_line_answer modes labels reported s (call_start_text s.machine.cpu s.machine.store.bytes number) (store_called s.images s.machine number)
unfolding stepping_answer
call_is modes labels reported s number = refl

pub load_is : (modes : StepModes) (labels : List ImageLabels) (reported : Option ℕ) (s : ScriptState) (text : List ℕ)
    → stepping_answer modes labels reported s (Load text)
    ≡ call_line_answer modes labels reported s (load_start_text text) (module_loaded s.images s.machine text)
unfolding stepping_answer
load_is modes labels reported s text = refl

pub finish_is : (modes : StepModes) (labels : List ImageLabels) (reported : Option ℕ) (s : ScriptState)
    → stepping_answer modes labels reported s Finish ≡ finish_answer modes labels reported s (length s.machine.tables.frames)
unfolding stepping_answer
finish_is modes labels reported s = refl

-- FINISH where a frame is open
pub finish_some : (modes : StepModes) (labels : List ImageLabels) (reported : Option ℕ) (s : ScriptState) (frames : ℕ) → 0 < frames
    → finish_answer modes labels reported s frames
    ≡ answer_if_unhalted reported s kind.Call s.left (steps_run modes labels (goal.Frames (frames - 1)) s.left reported s)
finish_some modes labels reported s zero some = absurd (omega (arith, some))
finish_some modes labels reported s (suc outer) some =
    let less : outer ≡ suc outer - 1 = omega arith in
    ap (λ (n : ℕ). answer_if_unhalted reported s kind.Call s.left (steps_run modes labels (goal.Frames n) s.left reported s)) less

-- TRACE LAST
pub run_last_is : (modes : StepModes) (labels : List ImageLabels) (reported : Option ℕ) (s : ScriptState) (count : ℕ)
    → stepping_answer modes labels reported s (RunLast count) ≡ answer_if_unhalted None s (kind.Steps false) s.left (last_run modes labels count s.left s)
unfolding stepping_answer
run_last_is modes labels reported s count = refl

-- its run, by what was found before it
pub last_ran : (modes : StepModes) (labels : List ImageLabels) (count left : ℕ) (s now : ScriptState) (old new : TraceWriter) (e : RunEnd) → left ≡ s.left
    → IsAfterStepping (last_run modes labels count left s) now old new e → IsAfterStepping (last_run modes labels count s.left s) now old new e
last_ran modes labels count left s now old new e is ran =
    subst (λ (n : ℕ). IsAfterStepping (last_run modes labels count n s) now old new e) is ran
