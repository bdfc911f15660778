-- The addresses at which the steps of a run begin, one step on.
use Rattle.std.proofs.Common.{◌≡◌, ◌<◌, ℕ, zero, suc, ◌-◌, false, length, List, [], ◌∷◌, Option, Some, None, Result, arith, refl, subst, sym, ap, ◌∙◌}
use Rattle.std.specs.Prelude.{OnOk, min}
use Rattle.profile.specs.declared.stop.Stop.{Stop}
use Rattle.debug_tables.specs.MachineState.{StepOutcome}
use Rattle.debug_tables.specs.Step.{module_loaded, store_called}
use Rattle.debug_tables.specs.Calls.{step_made, stop_before_step_by}
use Rattle.debug_tables.specs.State.{ScriptState}
use Rattle.debug_tables.proofs.CountsLemmas.CountLemmas.{uncounted}
use Rattle.debug_tables.specs.counts.Counts.{CountTable, step_counted, steps_counted}
use Rattle.debug_lines.specs.SteppingRequests.{Run, Step, Call, Load, Finish, Gosub, RunLast}
use Rattle.debug_runs.proofs.TraceWriterLemmas.{whatever}
use Rattle.debug_runs.specs.Places.{places_if_unhalted, places_of_call, places_of_finish, places_of_line, places_of_outside, places_of_run, places_unless, places_unless_stopped}
use Rattle.debug_tables.specs.Routines.{script_at_routine}
use Rattle.debug_runs.specs.Runs.{end_after, next_step}
use Rattle.debug_runs.specs.declared.running.RunEnd.{RunEnd}
use Rattle.debug_runs.specs.declared.running.RunGoal.{RunGoal}
use Rattle.debug_runs.specs.declared.running.RunGoal.TheVariants as goal
use Rattle.debug_tables.specs.declared.modes.StepModes.{StepModes}

-- the places of a run, by why it goes no further after its first step, if it does not
unfoldable pub places_by : StepModes → RunGoal → ℕ → ScriptState → ScriptState → Option RunEnd → List ℕ
places_by modes g n s next o = s.machine.cpu.pc ∷ places_unless o (places_of_run modes g n next)

first_place : (modes : StepModes) (g : RunGoal) (n : ℕ) (s : ScriptState) → let next = step_made s (next_step modes s) in
    places_of_run modes g (suc n) s ≡ places_by modes g n s next (end_after modes.watches g s next)
unfolding places_of_run places_by
first_place modes g n s = refl

pub first_of_left : (modes : StepModes) (g : RunGoal) (left : ℕ) (s next : ScriptState) → 0 < left → next ≡ step_made s (next_step modes s)
    → places_of_run modes g left s ≡ places_by modes g (left - 1) s next (end_after modes.watches g s next)
first_of_left modes g left s next some made =
    let split : left ≡ suc (left - 1) = omega (arith, some) in
    ap (λ (n : ℕ). places_of_run modes g n s) split ∙ first_place modes g (left - 1) s
    ∙ ap (λ (w : ScriptState). places_by modes g (left - 1) s w (end_after modes.watches g s w)) (sym made)

pub counts_on : (modes : StepModes) (g : RunGoal) (left : ℕ) (s next : ScriptState) (c after : CountTable) → 0 < left
    → next ≡ step_made s (next_step modes s) → end_after modes.watches g s next ≡ None → after ≡ step_counted c s.machine.cpu.pc
    → steps_counted (places_of_run modes g (left - 1) next) after ≡ steps_counted (places_of_run modes g left s) c
unfolding places_by
counts_on modes g left s next c after some made none counted =
    ap (steps_counted (places_of_run modes g (left - 1) next)) counted
    ∙ sym (ap (λ (xs : List ℕ). steps_counted xs c) (first_of_left modes g left s next some made
    ∙ ap (places_by modes g (left - 1) s next) none))

pub counts_stop : (modes : StepModes) (g : RunGoal) (left : ℕ) (s next : ScriptState) (c after : CountTable) (e : RunEnd) → 0 < left
    → next ≡ step_made s (next_step modes s) → end_after modes.watches g s next ≡ Some e → after ≡ step_counted c s.machine.cpu.pc
    → after ≡ steps_counted (places_of_run modes g left s) c
unfolding places_by
counts_stop modes g left s next c after e some made over counted =
    counted
    ∙ sym (ap (λ (xs : List ℕ). steps_counted xs c) (first_of_left modes g left s next some made
    ∙ ap (places_by modes g (left - 1) s next) over))

pub counts_rest : (modes : StepModes) (g : RunGoal) (left : ℕ) (s : ScriptState) (c : CountTable) → left ≡ 0
    → c ≡ steps_counted (places_of_run modes g left s) c
unfolding places_of_run
counts_rest modes g left s c none = sym (ap (λ (n : ℕ). steps_counted (places_of_run modes g n s) c) none)

-- where steps aren't counted
pub none_counted : {U E : Type 0} (r : Result U E) (steps : List ℕ) (c : CountTable) → c.is_on ≡ false → OnOk r (c ≡ steps_counted steps c)
none_counted r steps c off = whatever r (sym (uncounted steps c off))

-- A CALL FROM OUTSIDE

pub counts_none_of_call : (modes : StepModes) (g : RunGoal) (most : ℕ) (s next : ScriptState) (o : StepOutcome) (c : CountTable) (e : RunEnd)
    → next ≡ step_made s o → end_after modes.watches g s next ≡ Some e → c ≡ steps_counted (places_of_call modes g most s o) c
counts_none_of_call modes g most s next o c e made over =
    sym (ap (λ (w : ScriptState). steps_counted (places_unless (end_after modes.watches g s w) (places_of_run modes g (most - 1) w)) c) (sym made)
    ∙ ap (λ (x : Option RunEnd). steps_counted (places_unless x (places_of_run modes g (most - 1) next)) c) over)

pub places_behind_call : (modes : StepModes) (g : RunGoal) (most : ℕ) (s next : ScriptState) (o : StepOutcome)
    → next ≡ step_made s o → end_after modes.watches g s next ≡ None
    → places_of_call modes g most s o ≡ places_of_run modes g (most - 1) next
places_behind_call modes g most s next o made none =
    ap (λ (w : ScriptState). places_unless (end_after modes.watches g s w) (places_of_run modes g (most - 1) w)) (sym made)
    ∙ ap (λ (x : Option RunEnd). places_unless x (places_of_run modes g (most - 1) next)) none

-- A LINE

-- the same places, written another way
pub counts_same : {U E : Type 0} (r : Result U E) (places same : List ℕ) (c after : CountTable) → same ≡ places
    → OnOk r (after ≡ steps_counted places c) → OnOk r (after ≡ steps_counted same c)
counts_same r places same c after is counted = subst (λ (xs : List ℕ). OnOk r (after ≡ steps_counted xs c)) (sym is) counted

pub counts_refused : {U E : Type 0} (r : Result U E) (s : ScriptState) (most : ℕ) (places : List ℕ) (c : CountTable) (x : Stop)
    → stop_before_step_by s.machine.halt most ≡ Some x → OnOk r (c ≡ steps_counted (places_if_unhalted s most places) c)
counts_refused r s most places c x is =
    whatever r (sym (ap (λ (o : Option Stop). steps_counted (places_unless_stopped o places) c) is))

pub counts_unhalted : {U E : Type 0} (r : Result U E) (s : ScriptState) (most : ℕ) (places : List ℕ) (c after : CountTable)
    → stop_before_step_by s.machine.halt most ≡ None → after ≡ steps_counted places c
    → OnOk r (after ≡ steps_counted (places_if_unhalted s most places) c)
counts_unhalted r s most places c after is counted =
    whatever r (counted ∙ sym (ap (λ (o : Option Stop). steps_counted (places_unless_stopped o places) c) is))

-- each line's equation
pub run_places : (modes : StepModes) (s : ScriptState)
    → places_of_line modes s Run ≡ places_if_unhalted s s.left (places_of_run modes goal.Nowhere s.left s)
unfolding places_of_line
run_places modes s = refl

pub step_places : (modes : StepModes) (s : ScriptState) (count : ℕ)
    → places_of_line modes s (Step count) ≡ places_if_unhalted s (min count s.left) (places_of_run modes goal.Nowhere (min count s.left) s)
unfolding places_of_line
step_places modes s count = refl

pub call_places : (modes : StepModes) (s : ScriptState) (number : ℕ)
    → places_of_line modes s (Call number) ≡ places_of_outside modes s (store_called s.images s.machine number)
unfolding places_of_line
call_places modes s number = refl

pub load_places : (modes : StepModes) (s : ScriptState) (text : List ℕ)
    → places_of_line modes s (Load text) ≡ places_of_outside modes s (module_loaded s.images s.machine text)
unfolding places_of_line
load_places modes s text = refl

pub finish_places : (modes : StepModes) (s : ScriptState)
    → places_of_line modes s Finish ≡ places_of_finish modes s (length s.machine.tables.frames)
unfolding places_of_line
finish_places modes s = refl

pub gosub_places : (modes : StepModes) (s : ScriptState) (address : ℕ)
    → places_of_line modes s (Gosub address)
    ≡ places_if_unhalted s s.left (places_of_run modes (goal.Routine (length s.machine.tables.frames)) s.left (script_at_routine s address))
unfolding places_of_line
gosub_places modes s address = refl

pub last_places : (modes : StepModes) (s : ScriptState) (count : ℕ)
    → places_of_line modes s (RunLast count) ≡ places_if_unhalted s s.left (places_of_run modes goal.Nowhere s.left s)
unfolding places_of_line
last_places modes s count = refl

-- FINISH where no frame is open, and where one is
pub finish_none_places : {U E : Type 0} (r : Result U E) (modes : StepModes) (s : ScriptState) (frames : ℕ) (c : CountTable) → frames ≡ 0
    → OnOk r (c ≡ steps_counted (places_of_finish modes s frames) c)
finish_none_places r modes s frames c none =
    whatever r (sym (ap (λ (n : ℕ). steps_counted (places_of_finish modes s n) c) none))

pub finish_some_places : (modes : StepModes) (s : ScriptState) (frames : ℕ) → 0 < frames
    → places_of_finish modes s frames ≡ places_if_unhalted s s.left (places_of_run modes (goal.Frames (frames - 1)) s.left s)
finish_some_places modes s zero some = absurd (omega (arith, some))
finish_some_places modes s (suc outer) some =
    let less : outer ≡ suc outer - 1 = omega arith in
    ap (λ (n : ℕ). places_if_unhalted s s.left (places_of_run modes (goal.Frames n) s.left s)) less
