-- Runs of a debugger: steps one after another, until a goal is reached or the run is stopped, and
-- what is shown of each.
use Rattle.std.specs.Prelude.{ℕ, zero, suc, Bool, false, not, ◌-◌, ◌==◌, ◌&&◌, ◌++◌, List, [], length, Option, Some, None, if◌then◌else◌}
use Rattle.profile.specs.declared.stop.Stop.{Stop}
use Rattle.profile.specs.declared.stop.Stop.TheVariants as stop
use Rattle.debug_labels.specs.Labels.{ImageLabels}
use Rattle.law_machine.specs.Halt.{Halt}
use Rattle.debug_tables.specs.MachineState.{MachineState, StepOutcome, stop_of}
use Rattle.debug_tables.specs.Run.{is_among}
use Rattle.debug_tables.specs.Calls.{step_made}
use Rattle.debug_tables.specs.State.{ScriptState}
use Rattle.debug_tables.specs.Routines.{routine_end}
use Rattle.debug_tables.specs.Stubs.{stubbed_step}
use Rattle.debug_runs.specs.TraceWriter.{is_step_shown, one_answer, answer_of_step, whole_step_text}
use Rattle.debug_tables.specs.WordWatches.{watch_hit}
use Rattle.debug_tables.specs.declared.modes.StepModes.{StepModes}
use Rattle.debug_runs.specs.declared.running.RunEnd.{RunEnd}
use Rattle.debug_runs.specs.declared.running.RunEnd.TheVariants as end
use Rattle.debug_runs.specs.declared.running.RunGoal.{RunGoal}
use Rattle.debug_runs.specs.declared.running.RunGoal.TheVariants as goal
use Rattle.debug_tables.specs.WatchHit.{WatchHit}

-- a run without a goal ends where it is stopped
abbrev pub is_reached : RunGoal → MachineState → Bool
is_reached goal.Nowhere s = false
is_reached (goal.Frames count) s = length s.tables.frames == count
is_reached (goal.Routine count) s = s.cpu.pc == routine_end && length s.tables.frames == count

-- Why a run goes no further after a step. It is tested in this order: the machine is halted; the goal
-- is reached; a watched word is another than before the step; the program counter is among the breaks.
abbrev pub break_end : ScriptState → Option RunEnd
break_end s = if is_among s.breaks s.machine.cpu.pc then Some (end.Stopped (stop.Break s.machine.cpu.pc))
    else None

abbrev pub watched_end : Option WatchHit → ScriptState → Option RunEnd
watched_end (Some hit) s = Some (end.Watched hit)
watched_end None s = break_end s

abbrev pub run_end_by : List ℕ → RunGoal → ScriptState → ScriptState → Option Halt → Option RunEnd
run_end_by watches g before after (Some halt) = Some (end.Stopped (stop_of halt))
run_end_by watches g before after None = if is_reached g after.machine then Some end.Reached else
    watched_end (watch_hit watches before.machine.store.bytes after.machine.store.bytes) after

unfoldable pub end_after : List ℕ → RunGoal → ScriptState → ScriptState → Option RunEnd
end_after watches g before after = run_end_by watches g before after after.machine.halt

-- what a run leaves: the state, what is shown of its steps, what was printed, and why it went no further
pub record SteppingRun : Type 0 where
  pub now : ScriptState
  pub text : List ℕ
  pub printed : List ℕ
  pub ended : RunEnd

abbrev pub run_ended : ScriptState → RunEnd → SteppingRun
run_ended s e = record { now = s; text = []; printed = []; ended = e }

abbrev pub run_unless : ScriptState → Option RunEnd → SteppingRun → SteppingRun
run_unless s (Some e) more = run_ended s e
run_unless s None more = more

abbrev pub run_behind : List ℕ → List ℕ → SteppingRun → SteppingRun
run_behind text printed r = record r { text = text ++ r.text; printed = printed ++ r.printed }

-- a step, what is shown of it, and what follows unless the run ends after it
abbrev pub run_step : List ℕ → RunGoal → ScriptState → StepOutcome → List ℕ → (ScriptState → SteppingRun) →
    SteppingRun
run_step watches g s o text next = (let after = step_made s o in
    run_behind text o.printed (run_unless after (end_after watches g s after) (next after)))

-- the step that a run takes next, with stubs
abbrev pub next_step : StepModes → ScriptState → StepOutcome
next_step modes s = stubbed_step modes.stubs s.images s.machine

abbrev pub text_of_next : StepModes → List ImageLabels → Option ℕ → ScriptState → List ℕ
text_of_next modes labels reported s = (let o = next_step modes s in
    answer_of_step reported (whole_step_text modes.stubs labels s.machine o) o.printed)

-- a run of so many steps at most, of which so many are shown
unfoldable pub steps_run : StepModes → List ImageLabels → RunGoal → ℕ → Option ℕ → ScriptState → SteppingRun
steps_run modes labels g zero reported s = run_ended s (end.Stopped stop.Budget)
steps_run modes labels g (suc n) reported s =
    run_step modes.watches g s (next_step modes s) (text_of_next modes labels reported s)
    (steps_run modes labels g n (one_answer reported))

-- the same where the first step is a call from outside, which leaves this
abbrev pub call_run : StepModes → List ImageLabels → RunGoal → ℕ → Option ℕ → ScriptState → List ℕ →
    StepOutcome → SteppingRun
call_run modes labels g most reported s text o =
    run_step modes.watches g s o (answer_of_step reported text o.printed)
    (steps_run modes labels g (most - 1) (one_answer reported))

-- whether nothing looks at the instructions of a run: no step of it is told, and there is no watch; a stub
-- answers software interrupts alone
abbrev pub are_unseen : StepModes → Option ℕ → Bool
are_unseen modes reported = not (is_step_shown reported) && length modes.watches == 0

-- Why a run ends with so many steps at which nothing looked, if it does: that is tested after the last of
-- them alone, by the state that they left.
abbrev pub end_of_unseen : RunGoal → ScriptState → ℕ → Option RunEnd
end_of_unseen g now zero = None
end_of_unseen g now (suc n) = end_after [] g now now
