-- The addresses at which the steps of a line begin, one after another: of each step of a run, and of none
-- of a call from outside itself, which stands at no address.
use Rattle.std.specs.Prelude.{ℕ, zero, suc, ◌-◌, min, List, [], ◌∷◌, length, Option, Some, None}
use Rattle.profile.specs.declared.stop.Stop.{Stop}
use Rattle.debug_lines.specs.SteppingRequests.{SteppingRequest, Run, Step, Call, Load, Finish, Gosub, RunLast}
use Rattle.debug_tables.specs.MachineState.{StepOutcome}
use Rattle.debug_tables.specs.Step.{module_loaded, store_called}
use Rattle.debug_tables.specs.Calls.{step_made, stop_before_step_by}
use Rattle.debug_tables.specs.State.{ScriptState}
use Rattle.debug_tables.specs.Routines.{script_at_routine}
use Rattle.debug_runs.specs.Runs.{end_after, next_step}
use Rattle.debug_runs.specs.declared.running.RunEnd.{RunEnd}
use Rattle.debug_runs.specs.declared.running.RunGoal.{RunGoal}
use Rattle.debug_runs.specs.declared.running.RunGoal.TheVariants as goal
use Rattle.debug_tables.specs.declared.modes.StepModes.{StepModes}

abbrev pub places_unless : Option RunEnd → List ℕ → List ℕ
places_unless (Some e) more = []
places_unless None more = more

-- of a run of so many steps at most, whose steps are those of `steps_run`
unfoldable pub places_of_run : StepModes → RunGoal → ℕ → ScriptState → List ℕ
places_of_run modes g zero s = []
places_of_run modes g (suc n) s = (let after = step_made s (next_step modes s) in
    s.machine.cpu.pc ∷ places_unless (end_after modes.watches g s after) (places_of_run modes g n after))

-- the same where the first step is a call from outside, which leaves this
abbrev pub places_of_call : StepModes → RunGoal → ℕ → ScriptState → StepOutcome → List ℕ
places_of_call modes g most s o = (let after = step_made s o in
    places_unless (end_after modes.watches g s after) (places_of_run modes g (most - 1) after))

-- unless none of so many steps can be taken
abbrev pub places_unless_stopped : Option Stop → List ℕ → List ℕ
places_unless_stopped (Some stop) places = []
places_unless_stopped None places = places

abbrev pub places_if_unhalted : ScriptState → ℕ → List ℕ → List ℕ
places_if_unhalted s most places = places_unless_stopped (stop_before_step_by s.machine.halt most) places

-- CALL and LOAD, whose first step leaves this
abbrev pub places_of_outside : StepModes → ScriptState → StepOutcome → List ℕ
places_of_outside modes s o = places_if_unhalted s s.left
    (places_of_call modes (goal.Frames (length s.machine.tables.frames)) s.left s o)

-- FINISH, where so many frames are open
abbrev pub places_of_finish : StepModes → ScriptState → ℕ → List ℕ
places_of_finish modes s zero = []
places_of_finish modes s (suc outer) = places_if_unhalted s s.left
    (places_of_run modes (goal.Frames outer) s.left s)

unfoldable pub places_of_line : StepModes → ScriptState → SteppingRequest → List ℕ
places_of_line modes s Run = places_if_unhalted s s.left (places_of_run modes goal.Nowhere s.left s)
places_of_line modes s (Step count) = (let most = min count s.left in
    places_if_unhalted s most (places_of_run modes goal.Nowhere most s))
places_of_line modes s (Call number) = places_of_outside modes s (store_called s.images s.machine number)
places_of_line modes s (Load text) = places_of_outside modes s (module_loaded s.images s.machine text)
places_of_line modes s Finish = places_of_finish modes s (length s.machine.tables.frames)
places_of_line modes s (Gosub address) = places_if_unhalted s s.left
    (places_of_run modes (goal.Routine (length s.machine.tables.frames)) s.left (script_at_routine s address))
places_of_line modes s (RunLast count) = places_if_unhalted s s.left
    (places_of_run modes goal.Nowhere s.left s)
