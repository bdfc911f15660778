-- A line is the same however many of its steps are shown.
use Rattle.std.proofs.Common.{◌≡◌, ℕ, zero, suc, ◌-◌, ◌++◌, false, List, Option, Some, None, ap, refl, length}
use Rattle.std.specs.Prelude.{min, nat_le}
use Rattle.profile.specs.declared.stop.Stop.{Stop}
use Rattle.debug_labels.specs.Labels.{ImageLabels}
use Rattle.debug_tables.specs.MachineState.{StepOutcome}
use Rattle.debug_tables.specs.Step.{module_loaded, store_called}
use Rattle.debug_tables.specs.Calls.{step_made, stop_before_step_by}
use Rattle.debug_tables.specs.State.{ScriptState}
use Rattle.trace_text.specs.Step.{call_start_text, load_start_text}
use Rattle.debug_runs.specs.Endings.{line_end_answer}
use Rattle.debug_runs.specs.LastSteps.{last_run}
use Rattle.debug_runs.specs.Laws.{IsSameLine}
use Rattle.debug_lines.specs.SteppingRequests.{SteppingRequest, Run, Step, Call, Load, Finish, Gosub, RunLast}
use Rattle.debug_runs.specs.Lines.{call_line_answer, finish_answer, stepping_answer, answer_if_unhalted, answer_unless}
use Rattle.debug_tables.specs.Routines.{caller_in, script_at_routine}
use Rattle.debug_runs.specs.Runs.{SteppingRun, call_run, end_after, next_step, run_behind, run_unless, steps_run, text_of_next}
use Rattle.debug_runs.specs.TraceWriter.{call_text_behind, one_answer, answer_of_step}
use Rattle.debug_runs.specs.declared.endings.EndKind.{EndKind}
use Rattle.debug_runs.specs.declared.endings.EndKind.TheVariants as kind
use Rattle.debug_tables.specs.declared.modes.StepModes.{StepModes}
use Rattle.debug_runs.specs.declared.running.RunEnd.{RunEnd}
use Rattle.debug_runs.specs.declared.running.RunGoal.{RunGoal}
use Rattle.debug_runs.specs.declared.running.RunGoal.TheVariants as goal

-- all of a run but what is shown
record IsSameRun (r q : SteppingRun) : Type 0 where
  now : r.now ≡ q.now
  printed : r.printed ≡ q.printed
  ended : r.ended ≡ q.ended

same_unless : (after : ScriptState) (printed text text' : List ℕ) (e : Option RunEnd) (r q : SteppingRun) → IsSameRun r q
    → IsSameRun (run_behind text printed (run_unless after e r)) (run_behind text' printed (run_unless after e q))
same_unless after printed text text' (Some e) r q same = record { now = refl; printed = refl; ended = refl }
same_unless after printed text text' None r q same = record {
  now = same.now;
  printed = ap (λ (xs : List ℕ). printed ++ xs) same.printed;
  ended = same.ended;
}

same_steps : (modes : StepModes) (labels : List ImageLabels) (g : RunGoal) (n : ℕ) (reported untold : Option ℕ) (s : ScriptState)
    → IsSameRun (steps_run modes labels g n reported s) (steps_run modes labels g n untold s)
unfolding steps_run
same_steps modes labels g zero reported untold s = record { now = refl; printed = refl; ended = refl }
same_steps modes labels g (suc n) reported untold s =
    let o = next_step modes s in
    let after = step_made s o in
    same_unless after o.printed (text_of_next modes labels reported s) (text_of_next modes labels untold s) (end_after modes.watches g s after)
    (steps_run modes labels g n (one_answer reported) after) (steps_run modes labels g n (one_answer untold) after)
    (same_steps modes labels g n (one_answer reported) (one_answer untold) after)

same_call : (modes : StepModes) (labels : List ImageLabels) (g : RunGoal) (most : ℕ) (reported untold : Option ℕ) (s : ScriptState) (text : List ℕ) (o : StepOutcome)
    → IsSameRun (call_run modes labels g most reported s text o) (call_run modes labels g most untold s text o)
same_call modes labels g most reported untold s text o =
    let after = step_made s o in
    same_unless after o.printed (answer_of_step reported text o.printed) (answer_of_step untold text o.printed) (end_after modes.watches g s after)
    (steps_run modes labels g (most - 1) (one_answer reported) after) (steps_run modes labels g (most - 1) (one_answer untold) after)
    (same_steps modes labels g (most - 1) (one_answer reported) (one_answer untold) after)

same_answer : (reported untold : Option ℕ) (s : ScriptState) (k : EndKind) (r q : SteppingRun) (x : Option Stop) → IsSameRun r q
    → IsSameLine (answer_unless reported s k r x) (answer_unless untold s k q x)
same_answer reported untold s k r q (Some x) same = record { now = refl; printed = refl; ending = refl }
same_answer reported untold s k r q None same = record {
  now = λ i. (line_end_answer k (same.now i) (same.ended i)).state;
  printed = same.printed;
  ending = λ i. (line_end_answer k (same.now i) (same.ended i)).text;
}

same_if_unhalted : (reported untold : Option ℕ) (s : ScriptState) (k : EndKind) (most : ℕ) (r q : SteppingRun) → IsSameRun r q
    → IsSameLine (answer_if_unhalted reported s k most r) (answer_if_unhalted untold s k most q)
same_if_unhalted reported untold s k most r q same = same_answer reported untold s k r q (stop_before_step_by s.machine.halt most) same

same_finish : (modes : StepModes) (labels : List ImageLabels) (reported untold : Option ℕ) (s : ScriptState) (frames : ℕ)
    → IsSameLine (finish_answer modes labels reported s frames) (finish_answer modes labels untold s frames)
same_finish modes labels reported untold s zero = record { now = refl; printed = refl; ending = refl }
same_finish modes labels reported untold s (suc outer) =
    same_if_unhalted reported untold s kind.Call s.left (steps_run modes labels (goal.Frames outer) s.left reported s)
    (steps_run modes labels (goal.Frames outer) s.left untold s) (same_steps modes labels (goal.Frames outer) s.left reported untold s)

same_outside : (modes : StepModes) (labels : List ImageLabels) (reported untold : Option ℕ) (s : ScriptState) (start : List ℕ) (o : StepOutcome)
    → IsSameLine (call_line_answer modes labels reported s start o) (call_line_answer modes labels untold s start o)
same_outside modes labels reported untold s start o =
    let g = goal.Frames (length s.machine.tables.frames) in
    let text = call_text_behind start s.machine o in
    same_if_unhalted reported untold s kind.Call s.left (call_run modes labels g s.left reported s text o) (call_run modes labels g s.left untold s text o)
    (same_call modes labels g s.left reported untold s text o)

pub same_line : (modes : StepModes) (labels : List ImageLabels) (reported untold : Option ℕ) (s : ScriptState) (r : SteppingRequest)
    → IsSameLine (stepping_answer modes labels reported s r) (stepping_answer modes labels untold s r)
unfolding stepping_answer
same_line modes labels reported untold s Run =
    same_if_unhalted reported untold s (kind.Steps false) s.left (steps_run modes labels goal.Nowhere s.left reported s)
    (steps_run modes labels goal.Nowhere s.left untold s) (same_steps modes labels goal.Nowhere s.left reported untold s)
same_line modes labels reported untold s (Step count) =
    same_if_unhalted reported untold s (kind.Steps (nat_le count s.left)) (min count s.left) (steps_run modes labels goal.Nowhere (min count s.left) reported s)
    (steps_run modes labels goal.Nowhere (min count s.left) untold s) (same_steps modes labels goal.Nowhere (min count s.left) reported untold s)
same_line modes labels reported untold s (Call number) =
    same_outside modes labels reported untold s (call_start_text s.machine.cpu s.machine.store.bytes number) (store_called s.images s.machine number)
same_line modes labels reported untold s (Load text) =
    same_outside modes labels reported untold s (load_start_text text) (module_loaded s.images s.machine text)
same_line modes labels reported untold s Finish = same_finish modes labels reported untold s (length s.machine.tables.frames)
same_line modes labels reported untold s (Gosub address) =
    let g = goal.Routine (length s.machine.tables.frames) in
    let from = script_at_routine s address in
    same_if_unhalted reported untold s (kind.Routine (caller_in s)) s.left (steps_run modes labels g s.left reported from) (steps_run modes labels g s.left untold from)
    (same_steps modes labels g s.left reported untold from)
same_line modes labels reported untold s (RunLast count) = record { now = refl; printed = refl; ending = refl }

-- TRACE LAST is a RUN.
pub last_is_run : (modes : StepModes) (labels : List ImageLabels) (reported : Option ℕ) (count : ℕ) (s : ScriptState)
    → IsSameLine (stepping_answer modes labels reported s (RunLast count)) (stepping_answer modes labels None s Run)
unfolding stepping_answer
last_is_run modes labels reported count s =
    same_if_unhalted None None s (kind.Steps false) s.left (last_run modes labels count s.left s)
    (steps_run modes labels goal.Nowhere s.left None s) (record { now = refl; printed = refl; ended = refl })
