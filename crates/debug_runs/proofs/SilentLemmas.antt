-- What the machine's own run takes of a run at whose steps nothing looks.
use Rattle.std.proofs.Math.Bool.{and-true}
use Rattle.std.proofs.Common.{◌≡◌, ◌≤◌, ◌<◌, ℕ, zero, suc, ◌+◌, ◌-◌, ◌==◌, ◌&&◌, ◌++◌, ◌⊎◌, inl, inr, Bool, true, false, not, List, [], ◌∷◌, Option, Some, None, if◌then◌else◌, ap, arith, length, refl, subst, sym, ◌∙◌}
use Rattle.std.proofs.lemmas.Bool.{and_parts, eqb-true, ltb-true, ne_eqb}
use Rattle.std.proofs.lemmas.Bool.Decides.{nat_tests}
use Rattle.std.proofs.lemmas.List.{length-append}
use Rattle.std.specs.Prelude.{nat_lt}
use Rattle.profile.specs.MemoryMap.{return_gate}
use Rattle.profile.specs.declared.stop.Stop.{Stop}
use Rattle.profile.specs.declared.stop.Stop.TheVariants as stop
use Rattle.debug_labels.specs.Labels.{ImageLabels}
use Rattle.profile.specs.images.Entries.{Entry}
use Rattle.law_machine.proofs.Keeping.{only_the_gate_closes}
use Rattle.debug_labels.specs.Frame.{Frame}
use Rattle.law_machine.specs.Halt.{Halt}
use Rattle.debug_tables.specs.MachineState.{MachineState, StepOutcome}
use Rattle.debug_tables.specs.Run.{Run, count_after, go_on, is_among, silent_run, ran, resting, run_after_steps}
use Rattle.debug_tables.specs.Step.{machine_step}
use Rattle.debug_tables.specs.GuestState.{AreCoreSteps}
use Rattle.debug_lines.specs.Stub.{Stub}
use Rattle.law_machine.proofs.RunLoop.{ran-none}
use Rattle.debug_tables.specs.Calls.{step_made}
use Rattle.debug_tables.specs.State.{ScriptState}
use Rattle.debug_tables.specs.Stepping.{IsAfterSilentSteps, script_after_silent}
use Rattle.debug_runs.specs.Silent.{IsAfterSilentUpTo, stay_open}
use Rattle.debug_runs.specs.Runs.{SteppingRun, are_unseen, end_after, end_of_unseen, is_reached, next_step, run_behind, run_end_by, run_ended, run_step, run_unless, steps_run, text_of_next}
use Rattle.debug_runs.specs.TraceWriter.{is_step_shown, one_answer, answer_of_step, untold_text, whole_step_text}
use Rattle.debug_tables.specs.Routines.{routine_end}
use Rattle.debug_runs.specs.declared.running.RunEnd.{RunEnd}
use Rattle.debug_runs.specs.declared.running.RunEnd.TheVariants as end
use Rattle.debug_runs.specs.declared.running.RunGoal.{RunGoal}
use Rattle.debug_runs.specs.declared.running.RunGoal.TheVariants as goal
use Rattle.debug_tables.specs.declared.modes.StepModes.{StepModes}
use Rattle.debug_runs.proofs.CoreStepLemmas.{real_step, step_leads, with_stubs}
use Rattle.debug_runs.proofs.PlainLemmas.{empty, ran_first, stale}
use Rattle.debug_runs.specs.Reported.{IsAfterStepping}
use Rattle.debug_runs.specs.declared.writer.TraceWriter.{TraceWriter}
use Rattle.debug_runs.proofs.RunLemmas.{IsRest, first_step_of, rest_ends}
use Rattle.debug_runs.proofs.TraceWriterLemmas.{untold_none}

-- STEPS OF WHICH NOTHING IS Shown

-- how many are shown after it
pub stays_untold : (reported : Option ℕ) → is_step_shown reported ≡ false → one_answer reported ≡ reported
stays_untold None is = refl
stays_untold (Some zero) is = let none : zero - 1 ≡ zero = omega arith in ap (λ (n : ℕ). Some n) none
stays_untold (Some (suc limit)) is = absurd (grind (arith, nat_tests, is))

pub silent_step : (reported : Option ℕ) (whole printed : List ℕ) → is_step_shown reported ≡ false → printed ≡ []
    → answer_of_step reported whole printed ≡ []
silent_step reported whole printed untold unprinted =
    (λ i. if untold i then whole else untold_text reported (unprinted i)) ∙ untold_none reported

-- THE MACHINE'S OWN RUN

-- a run that printed nothing, of which each step counts
pub record IsSilent (q : Run) (now : MachineState) (n : ℕ) (x : Stop) : Type 0 where
  pub machine : q.now ≡ now
  pub printed : q.printed ≡ []
  pub taken : q.taken ≡ n
  pub stop : q.stop ≡ x

pub is_silent : (now : MachineState) (n : ℕ) (x : Stop) → IsSilent (silent_run now n x) now n x
is_silent now zero x = record { machine = refl; printed = refl; taken = refl; stop = refl }
is_silent now (suc n) x = record { machine = refl; printed = refl; taken = refl; stop = refl }

nothing_in : (xs ys : List ℕ) → xs ++ ys ≡ [] → (xs ≡ []) × (ys ≡ [])
nothing_in [] ys is = (refl, is)
nothing_in (x ∷ xs) ys is = absurd (cc)

-- its first step is the last, or else leads to none of the stops, and such a run goes on from there
pub record FirstSilent (images : List Entry) (stops : List ℕ) (o : StepOutcome) (k : ℕ) (now : MachineState) (x : Stop) : Type 0 where
  pub unhalted : o.now.halt ≡ None
  pub unprinted : o.printed ≡ []
  pub next : ((k ≡ 0) × (o.now ≡ now)) ⊎ ((is_among stops o.now.cpu.pc ≡ false) × IsSilent (ran images stops k o.now) now k x)

first_at : (images : List Entry) (stops : List ℕ) (o : StepOutcome) (k : ℕ) (now : MachineState) (x : Stop) (among : Bool) → o.now.halt ≡ None
    → is_among stops o.now.cpu.pc ≡ among
    → IsSilent (if among then record { now = o.now; printed = o.printed; last = Some o.printed; taken = 1; stop = stop.Break o.now.cpu.pc }
    else run_after_steps o.printed (Some o.printed) 1 (ran images stops k o.now)) now (suc k) x
    → FirstSilent images stops o k now x
first_at images stops o k now x true unhalted among is =
    let counted : 1 ≡ suc k = is.taken in
    let none : k ≡ 0 = omega (arith, counted) in
    record { unhalted = unhalted; unprinted = is.printed; next = inl (none, is.machine) }
first_at images stops o k now x false unhalted among is =
    let q : Run = ran images stops k o.now in
    let unprinted = nothing_in o.printed q.printed is.printed in
    let counted : 1 + q.taken ≡ suc k = is.taken in
    let taken : q.taken ≡ k = omega (arith, counted) in
    record {
      unhalted = unhalted;
      unprinted = unprinted.0;
      next = inr (among, record { machine = is.machine; printed = unprinted.1; taken = taken; stop = is.stop });
    }

first_by : (images : List Entry) (stops : List ℕ) (o : StepOutcome) (k : ℕ) (now : MachineState) (x : Stop) (h : Option Halt) → now.halt ≡ None
    → o.now.halt ≡ h → IsSilent (go_on stops o h (ran images stops k)) now (suc k) x → FirstSilent images stops o k now x
first_by images stops o k now x (Some h) still halted is =
    let none : Some h ≡ None = sym halted ∙ ap (λ (m : MachineState). m.halt) is.machine ∙ still in absurd (cc)
first_by images stops o k now x None still unhalted is =
    first_at images stops o k now x (is_among stops o.now.cpu.pc) unhalted refl is

pub first_silent : (images : List Entry) (stops : List ℕ) (k : ℕ) (m now : MachineState) (x : Stop) → m.halt ≡ None → now.halt ≡ None
    → IsSilent (ran images stops (suc k) m) now (suc k) x → FirstSilent images stops (machine_step images m) k now x
first_silent images stops k m now x unhalted still is =
    let o = machine_step images m in
    first_by images stops o k now x o.now.halt still refl
    (subst (λ (q : Run). IsSilent q now (suc k) x) (ran_first images stops k m unhalted) is)

-- no step is left
pub rested : (images : List Entry) (stops : List ℕ) (m now : MachineState) (x : Stop) → m.halt ≡ None → IsSilent (ran images stops 0 m) now 0 x → m ≡ now
rested images stops m now x unhalted is =
    let none : IsSilent (resting m stop.Budget) now 0 x =
    subst (λ (q : Run). IsSilent q now 0 x) (ran-none images stops m unhalted) is in none.machine

-- STEP BY STEP

abbrev rest_of : List Stub → List ImageLabels → RunGoal → Option ℕ → ℕ → ScriptState → SteppingRun
rest_of stubs labels g reported n s = steps_run (with_stubs stubs) labels g n reported s

-- where it leads, and what then is left
abbrev left_of : List Stub → List ImageLabels → RunGoal → Option ℕ → ScriptState → ℕ → SteppingRun
left_of stubs labels g reported now m = run_unless now (end_after [] g now now) (rest_of stubs labels g reported m now)

first_unseen : (stubs : List Stub) (labels : List ImageLabels) (g : RunGoal) (reported : Option ℕ) (n : ℕ) (s : ScriptState)
    → next_step (with_stubs stubs) s ≡ machine_step s.images s.machine
    → rest_of stubs labels g reported (suc n) s
    ≡ (let o = machine_step s.images s.machine in run_step [] g s o
    (answer_of_step reported (whole_step_text stubs labels s.machine o) o.printed) (rest_of stubs labels g (one_answer reported) n))
first_unseen stubs labels g reported n s real =
    first_step_of (with_stubs stubs) labels g n reported s
    ∙ ap (λ (o : StepOutcome). run_step [] g s o
    (answer_of_step reported (whole_step_text stubs labels s.machine o) o.printed) (rest_of stubs labels g (one_answer reported) n)) real

-- a step that prints nothing shows nothing
abbrev silent_behind : RunGoal → ScriptState → StepOutcome → (ScriptState → SteppingRun) → SteppingRun
silent_behind g s o f = (let after = step_made s o in run_unless after (end_after [] g s after) (f after))

step_silent : (stubs : List Stub) (labels : List ImageLabels) (g : RunGoal) (reported : Option ℕ) (most : ℕ) (s : ScriptState) → is_step_shown reported ≡ false
    → 0 < most → next_step (with_stubs stubs) s ≡ machine_step s.images s.machine → (machine_step s.images s.machine).printed ≡ []
    → rest_of stubs labels g reported most s ≡ silent_behind g s (machine_step s.images s.machine) (rest_of stubs labels g reported (most - 1))
step_silent stubs labels g reported most s untold some real unprinted =
    let o = machine_step s.images s.machine in
    let split : most ≡ suc (most - 1) = omega (arith, some) in
    let text = silent_step reported (whole_step_text stubs labels s.machine o) o.printed untold unprinted in
    let same = stays_untold reported untold in
    ap (λ (n : ℕ). rest_of stubs labels g reported n s) split ∙ first_unseen stubs labels g reported (most - 1) s real
    ∙ (λ i. run_behind (text i) (unprinted i) (silent_behind g s o (rest_of stubs labels g (same i) (most - 1))))

-- the states
pub made_one : (s : ScriptState) (o : StepOutcome) (now : MachineState) (k : ℕ) → o.now.halt ≡ None
    → script_after_silent (step_made s o) now k ≡ script_after_silent s now (suc k)
made_one s o now k unhalted =
    let one = ap count_after unhalted in
    let fresh : (false && (k == 0)) ≡ (s.is_fresh && (suc k == 0)) = stale s.is_fresh k in
    let left : (s.left - count_after o.now.halt) - k ≡ s.left - suc k = omega (arith, one) in
    λ i. record s { machine = now; is_fresh = fresh i; left = left i }

pub made_last : (s : ScriptState) (o : StepOutcome) → o.now.halt ≡ None → step_made s o ≡ script_after_silent s o.now 1
made_last s o unhalted =
    let one = ap count_after unhalted in
    let fresh : false ≡ (s.is_fresh && (1 == 0)) = stale s.is_fresh 0 in
    let left : s.left - count_after o.now.halt ≡ s.left - 1 = omega (arith, one) in
    λ i. record s { machine = o.now; is_fresh = fresh i; left = left i }

-- with no watch the state before the step doesn't matter
end_by_any : (g : RunGoal) (a b after : ScriptState) (h : Option Halt) → run_end_by [] g a after h ≡ run_end_by [] g b after h
end_by_any g a b after (Some h) = refl
end_by_any g a b after None = refl

end_any : (g : RunGoal) (a b after : ScriptState) → end_after [] g a after ≡ end_after [] g b after
unfolding end_after
end_any g a b after = end_by_any g a b after after.machine.halt

-- no end where it goes on
goes_by : (s after : ScriptState) (g : RunGoal) (h : Option Halt) (reached among : Bool) → h ≡ None → reached ≡ false → among ≡ false
    → is_reached g after.machine ≡ reached → is_among after.breaks after.machine.cpu.pc ≡ among → run_end_by [] g s after h ≡ None
goes_by s after g (Some h) reached among unhalted short clear is at = absurd (cc)
goes_by s after g None reached among unhalted short clear is at =
    ap (λ (b : Bool). if b then Some end.Reached else (if is_among after.breaks after.machine.cpu.pc then Some (end.Stopped (stop.Break after.machine.cpu.pc)) else None)) (is ∙ short)
    ∙ ap (λ (b : Bool). if b then Some (end.Stopped (stop.Break after.machine.cpu.pc)) else None) (at ∙ clear)

pub no_end : (s after : ScriptState) (g : RunGoal) → after.machine.halt ≡ None → is_reached g after.machine ≡ false
    → is_among after.breaks after.machine.cpu.pc ≡ false → end_after [] g s after ≡ None
unfolding end_after
no_end s after g unhalted short clear =
    goes_by s after g after.machine.halt false false unhalted refl refl short clear

-- WHAT IS LEFT

-- what holds of the machine from step to step, as long as it comes to none of the stops: the goal isn't reached then
abbrev StaysShort : List Entry → List ℕ → RunGoal → (MachineState → Type 0) → Type 0
StaysShort images stops g P = (m : MachineState) → P m → is_among stops (machine_step images m).now.cpu.pc ≡ false
    → P (machine_step images m).now × (is_reached g (machine_step images m).now ≡ false)

abbrev pub Covers : List ℕ → List ℕ → Type 0
Covers breaks stops = (at : ℕ) → is_among stops at ≡ false → is_among breaks at ≡ false

silent_last_step : (stubs : List Stub) (labels : List ImageLabels) (g : RunGoal) (reported : Option ℕ) (most : ℕ) (s : ScriptState) (now : MachineState)
    → is_step_shown reported ≡ false → 0 < most → next_step (with_stubs stubs) s ≡ machine_step s.images s.machine
    → (machine_step s.images s.machine).now.halt ≡ None → (machine_step s.images s.machine).printed ≡ [] → (machine_step s.images s.machine).now ≡ now
    → rest_of stubs labels g reported most s ≡ left_of stubs labels g reported (script_after_silent s now 1) (most - 1)
silent_last_step stubs labels g reported most s now untold some real unhalted unprinted is =
    let o = machine_step s.images s.machine in
    let after = step_made s o in
    let made : after ≡ script_after_silent s now 1 = made_last s o unhalted ∙ ap (λ (m : MachineState). script_after_silent s m 1) is in
    step_silent stubs labels g reported most s untold some real unprinted
    ∙ ap (λ (e : Option RunEnd). run_unless after e (rest_of stubs labels g reported (most - 1) after)) (end_any g s after after)
    ∙ ap (λ (w : ScriptState). left_of stubs labels g reported w (most - 1)) made

silent_on : (stubs : List Stub) (labels : List ImageLabels) (g : RunGoal) (reported : Option ℕ) (stops : List ℕ) (P : MachineState → Type 0) (k most : ℕ) (s : ScriptState)
    (now : MachineState) (x : Stop) → is_step_shown reported ≡ false → suc k ≤ most → s.machine.halt ≡ None → now.halt ≡ None → Covers s.breaks stops
    → StaysShort s.images stops g P → P s.machine → AreCoreSteps (suc k) s.machine now → IsSilent (ran s.images stops (suc k) s.machine) now (suc k) x
    → rest_of stubs labels g reported most s ≡ left_of stubs labels g reported (script_after_silent s now (suc k)) (most - suc k)
unfolding AreCoreSteps
silent_on stubs labels g reported stops P zero most s now x untold few unhalted still covers short holds steps is =
    let o = machine_step s.images s.machine in
    let first = first_silent s.images stops 0 s.machine now x unhalted still is in
    let real = real_step stubs s steps.0 unhalted steps.1.0 in
    let some : 0 < most = omega (arith, few) in
    elim first.next [
      | inl last ↦ silent_last_step stubs labels g reported most s now untold some real first.unhalted first.unprinted last.1
      | inr more ↦ silent_last_step stubs labels g reported most s now untold some real first.unhalted first.unprinted
          (rested s.images stops o.now now x first.unhalted more.1)
    ]
silent_on stubs labels g reported stops P (suc k) most s now x untold few unhalted still covers short holds steps is =
    let o = machine_step s.images s.machine in
    let after = step_made s o in
    let first = first_silent s.images stops (suc k) s.machine now x unhalted still is in
    let real = real_step stubs s steps.0 unhalted steps.1.0 in
    let further : AreCoreSteps (suc k) o.now now =
    subst (λ (m : MachineState). AreCoreSteps (suc k) m now) (step_leads s steps.0 unhalted steps.1.0) steps.1.1 in
    let some : 0 < most = omega (arith, few) in
    let fewer : suc k ≤ most - 1 = omega (arith, few) in
    let rest : most - 1 - suc k ≡ most - suc (suc k) = omega arith in
    elim first.next [
      | inl last ↦ absurd (let none : suc k ≡ 0 = last.0 in omega (arith, none))
      | inr more ↦ (let kept = short s.machine holds more.0 in
          step_silent stubs labels g reported most s untold some real first.unprinted
          ∙ ap (λ (e : Option RunEnd). run_unless after e (rest_of stubs labels g reported (most - 1) after))
          (no_end s after g first.unhalted kept.1 (covers o.now.cpu.pc more.0))
          ∙ silent_on stubs labels g reported stops P k (most - 1) after now x untold fewer first.unhalted still covers short kept.0 further more.1
          ∙ (λ i. left_of stubs labels g reported (made_one s o now (suc k) first.unhalted i) (rest i)))
    ]

-- A RUN AT WHOSE STEPS NOTHING LOOKS

pub untold_by : (b : Bool) → not b ≡ true → b ≡ false
untold_by true is = absurd (cc)
untold_by false is = refl

abbrev pub GoesOnAfter : List ImageLabels → RunGoal → Option ℕ → ℕ → ℕ → ScriptState → ScriptState → StepModes → Type 0
GoesOnAfter labels g reported most n s now modes = steps_run modes labels g most reported s
    ≡ run_unless now (end_of_unseen g now n) (steps_run modes labels g (most - n) reported now)

stubbed_run : (stubs : List Stub) (labels : List ImageLabels) (g : RunGoal) (reported : Option ℕ) (stops : List ℕ) (P : MachineState → Type 0) (most n : ℕ) (s now : ScriptState)
    (x : Stop) → is_step_shown reported ≡ false → n ≤ most → s.machine.halt ≡ None → now.machine.halt ≡ None → Covers s.breaks stops → StaysShort s.images stops g P
    → P s.machine → AreCoreSteps n s.machine now.machine → IsSilent (ran s.images stops n s.machine) now.machine n x → now ≡ script_after_silent s now.machine n
    → GoesOnAfter labels g reported most n s now (with_stubs stubs)
stubbed_run stubs labels g reported stops P most zero s now x untold few unhalted still covers short holds steps is state =
    let same : s.machine ≡ now.machine = rested s.images stops s.machine now.machine x unhalted is in
    let fresh : s.is_fresh ≡ (s.is_fresh && (0 == 0)) = sym (and-true s.is_fresh) in
    let left : s.left ≡ s.left - 0 = omega arith in
    let all : most ≡ most - 0 = omega arith in
    let start : s ≡ script_after_silent s now.machine 0 = λ i. record s { machine = same i; is_fresh = fresh i; left = left i } in
    let whole : s ≡ now = start ∙ sym state in
    λ i. rest_of stubs labels g reported (all i) (whole i)
stubbed_run stubs labels g reported stops P most (suc k) s now x untold few unhalted still covers short holds steps is state =
    silent_on stubs labels g reported stops P k most s now.machine x untold few unhalted still covers short holds steps is
    ∙ ap (λ (w : ScriptState). left_of stubs labels g reported w (most - suc k)) (sym state)

unwatched : (modes : StepModes) → (length modes.watches == 0) ≡ true → modes ≡ with_stubs modes.stubs
unwatched modes is =
    let none : modes.watches ≡ [] = empty modes.watches is in
    λ i. record { stubs = modes.stubs; watches = none i }

unseen_run : (modes : StepModes) (labels : List ImageLabels) (g : RunGoal) (reported : Option ℕ) (stops : List ℕ) (P : MachineState → Type 0) (most n : ℕ) (s now : ScriptState) (x : Stop)
    → are_unseen modes reported ≡ true → n ≤ most → s.machine.halt ≡ None → now.machine.halt ≡ None → Covers s.breaks stops → StaysShort s.images stops g P → P s.machine
    → AreCoreSteps n s.machine now.machine → ran s.images stops n s.machine ≡ silent_run now.machine n x → now ≡ script_after_silent s now.machine n
    → GoesOnAfter labels g reported most n s now modes
unseen_run modes labels g reported stops P most n s now x unseen few unhalted still covers short holds steps run state =
    let parts = and_parts (not (is_step_shown reported)) (length modes.watches == 0) unseen in
    let silent : IsSilent (ran s.images stops n s.machine) now.machine n x =
    subst (λ (q : Run). IsSilent q now.machine n x) (sym run) (is_silent now.machine n x) in
    subst (λ (m : StepModes). GoesOnAfter labels g reported most n s now m) (sym (unwatched modes parts.1))
    (stubbed_run modes.stubs labels g reported stops P most n s now x (untold_by (is_step_shown reported) parts.0) few unhalted still covers short holds steps silent state)

-- without a goal
pub nowhere_run : (modes : StepModes) (labels : List ImageLabels) (reported : Option ℕ) (most n : ℕ) (s now : ScriptState) (x : Stop)
    → are_unseen modes reported ≡ true → n ≤ most → s.machine.halt ≡ None → IsAfterSilentSteps s now n x
    → GoesOnAfter labels goal.Nowhere reported most n s now modes
nowhere_run modes labels reported most n s now x unseen few unhalted after =
    unseen_run modes labels goal.Nowhere reported s.breaks (λ (m : MachineState). Unit {0}) most n s now x unseen few unhalted after.unhalted
    (λ at clear. clear) (λ m holds clear. (tt, refl)) tt after.steps after.run after.state

-- until a routine has come back, where the run stops at the address to which it goes back
pub elsewhere : (stops : List ℕ) (address at : ℕ) → is_among stops address ≡ true → is_among stops at ≡ false → (at ≡ address → ⊥)
elsewhere stops address at ahead clear here =
    let no : true ≡ false = sym ahead ∙ (ap (is_among stops) (sym here) ∙ clear) in absurd (cc)

not_back : (count : ℕ) (m : MachineState) → (m.cpu.pc ≡ routine_end → ⊥) → is_reached (goal.Routine count) m ≡ false
not_back count m other =
    ap (λ (b : Bool). b && (length m.tables.frames == count)) (ne_eqb m.cpu.pc routine_end other)

pub routine_run : (modes : StepModes) (labels : List ImageLabels) (count : ℕ) (reported : Option ℕ) (most n : ℕ) (s now : ScriptState)
    → are_unseen modes reported ≡ true → n ≤ most → s.machine.halt ≡ None → IsAfterSilentUpTo routine_end s now n
    → GoesOnAfter labels (goal.Routine count) reported most n s now modes
routine_run modes labels count reported most n s now unseen few unhalted after =
    unseen_run modes labels (goal.Routine count) reported after.stops (λ (m : MachineState). Unit {0}) most n s now after.ends unseen few unhalted after.unhalted
    after.breaks
    (λ m holds clear. (
      tt,
      not_back count (machine_step s.images m).now
          (elsewhere after.stops routine_end (machine_step s.images m).now.cpu.pc after.ahead clear),
    ))
    tt after.steps after.run after.state

-- until so many frames are open, where the run stops at the return gate
record IsOpenBefore (count : ℕ) (m : MachineState) : Type 0 where
  other : m.cpu.pc ≡ return_gate → ⊥
  more : count < length m.tables.frames

stays_open : (images : List Entry) (stops : List ℕ) (count : ℕ) (m : MachineState) → is_among stops return_gate ≡ true → IsOpenBefore count m
    → is_among stops (machine_step images m).now.cpu.pc ≡ false
    → IsOpenBefore count (machine_step images m).now × (is_reached (goal.Frames count) (machine_step images m).now ≡ false)
stays_open images stops count m ahead is clear =
    let t = (machine_step images m).now in
    let kept = only_the_gate_closes images m is.other in
    let longer : length t.tables.frames ≡ length (m.tables.frames ++ kept.opened) = ap (λ (xs : List Frame). length xs) kept.are in
    let more : count < length t.tables.frames = omega (arith, is.more, longer, length-append m.tables.frames kept.opened) in
    let short : length t.tables.frames ≡ count → ⊥ = λ same. omega (arith, same, more) in
    (record { other = elsewhere stops return_gate t.cpu.pc ahead clear; more = more }, ne_eqb (length t.tables.frames) count short)

open_by : (at : Bool) (count : ℕ) (m : MachineState) → (m.cpu.pc == return_gate) ≡ at → (if at then false else nat_lt count (length m.tables.frames)) ≡ true
    → IsOpenBefore count m
open_by true count m gate is = absurd (cc)
open_by false count m gate is = record {
  other = λ here. let no : true ≡ false = sym (ap (λ (n : ℕ). n == return_gate) here) ∙ gate in absurd (cc);
  more = ltb-true count (length m.tables.frames) is;
}

pub frames_run : (modes : StepModes) (labels : List ImageLabels) (count : ℕ) (reported : Option ℕ) (most n : ℕ) (s now : ScriptState)
    → are_unseen modes reported ≡ true → n ≤ most → s.machine.halt ≡ None → stay_open count s.machine ≡ true → IsAfterSilentUpTo return_gate s now n
    → GoesOnAfter labels (goal.Frames count) reported most n s now modes
frames_run modes labels count reported most n s now unseen few unhalted stays after =
    unseen_run modes labels (goal.Frames count) reported after.stops (IsOpenBefore count) most n s now after.ends unseen few unhalted after.unhalted
    after.breaks (λ m holds clear. stays_open s.images after.stops count m after.ahead holds clear)
    (open_by (s.machine.cpu.pc == return_gate) count s.machine refl stays) after.steps after.run after.state

-- why it ends with them
pub no_end_of_none : (g : RunGoal) (now : ScriptState) (n : ℕ) → n ≡ 0 → end_of_unseen g now n ≡ None
no_end_of_none g now n none = ap (end_of_unseen g now) none

pub end_of_some : (g : RunGoal) (now : ScriptState) (n : ℕ) → 0 < n → end_of_unseen g now n ≡ end_after [] g now now
end_of_some g now n some = let split : n ≡ suc (n - 1) = omega (arith, some) in ap (end_of_unseen g now) split

-- none are taken so
pub none_unseen : (modes : StepModes) (labels : List ImageLabels) (g : RunGoal) (reported : Option ℕ) (most : ℕ) (s : ScriptState)
    → steps_run modes labels g most reported s ≡ run_unless s None (steps_run modes labels g (most - 0) reported s)
none_unseen modes labels g reported most s =
    let all : most ≡ most - 0 = omega arith in ap (λ (n : ℕ). steps_run modes labels g n reported s) all

-- a machine whose run goes on isn't halted
unhalted_by : (watches : List ℕ) (g : RunGoal) (before after : ScriptState) (h : Option Halt) → run_end_by watches g before after h ≡ None → h ≡ None
unhalted_by watches g before after None is = refl
unhalted_by watches g before after (Some h) is = absurd (cc)

pub goes_on_unhalted : (watches : List ℕ) (g : RunGoal) (before after : ScriptState) → end_after watches g before after ≡ None → after.machine.halt ≡ None
unfolding end_after
goes_on_unhalted watches g before after is = unhalted_by watches g before after after.machine.halt is

-- behind such steps a run goes on, or ends
pub unseen_goes_on : (old new : TraceWriter) (modes : StepModes) (labels : List ImageLabels) (g : RunGoal) (most n : ℕ) (s now : ScriptState) (all : SteppingRun) (e : Option RunEnd)
    → IsRest old new (steps_run modes labels g most new.reported s) all
    → steps_run modes labels g most new.reported s ≡ run_unless now e (steps_run modes labels g (most - n) new.reported now) → e ≡ None
    → IsRest old new (steps_run modes labels g (most - n) new.reported now) all
unseen_goes_on old new modes labels g most n s now all e is rest none =
    subst (λ (r : SteppingRun). IsRest old new r all)
    (rest ∙ ap (λ (x : Option RunEnd). run_unless now x (steps_run modes labels g (most - n) new.reported now)) none) is

pub unseen_stops : (old new : TraceWriter) (modes : StepModes) (labels : List ImageLabels) (g : RunGoal) (most n : ℕ) (s now : ScriptState) (all : SteppingRun) (e : Option RunEnd) (x : RunEnd)
    → IsRest old new (steps_run modes labels g most new.reported s) all
    → steps_run modes labels g most new.reported s ≡ run_unless now e (steps_run modes labels g (most - n) new.reported now) → e ≡ Some x
    → IsAfterStepping all now old new x
unseen_stops old new modes labels g most n s now all e x is rest over =
    rest_ends old new now x all (subst (λ (r : SteppingRun). IsRest old new r all)
    (rest ∙ ap (λ (y : Option RunEnd). run_unless now y (steps_run modes labels g (most - n) new.reported now)) over) is)
