-- Runs are steps.
use Rattle.std.proofs.Common.{◌≡◌, ◌≢◌, ◌<◌, ◌≤◌, ℕ, Bool, true, false, zero, suc, ◌+◌, ◌-◌, ◌&&◌, ◌==◌, Option, Some, None, List, [], ◌∷◌, refl, sym, ◌∙◌, ap, arith, if◌then◌else◌}
use Rattle.std.proofs.Math.Bool.{and-true}
use Rattle.std.proofs.lemmas.Bool.Decides.{nat_tests}
use Rattle.profile.specs.images.Entries.{Entry}
use Rattle.command_shell_lines.specs.declared.debug_words.stubs.Stub.{Stub}
use Rattle.profile.specs.declared.stop.Stop.{Stop}
use Rattle.profile.specs.declared.stop.Stop.TheVariants as stop
use Rattle.debug_labels.specs.Halt.{Halt}
use Rattle.debug_tables.specs.MachineState.{MachineState, StepOutcome, stop_of}
use Rattle.debug_tables.specs.Step.{machine_step, outcome_of_turn, result_of_instruction, unless_halted}
use Rattle.debug_tables.specs.Run.{Run, go_on, halt_step_count, is_among, ran, resting, run_after_steps, run_unless_halted}
use Rattle.debug_tables.specs.Stubs.{StubDeedState, deed_ahead, deed_next, deed_that_fits, deed_unless_halted, machine_after_deed, machine_after_put, step_or_deed, stubbed_step}
use Rattle.debug_tables.proofs.StubLemmas.{put_halt, settings_halt}
use Rattle.debug_history.specs.Noted.{is_faulted}
use Rattle.debug_history.specs.Acts.{PastMoment, moment_after_steps}
use Rattle.debug_history.specs.Steps.{RunsAreTheirSteps, steps_after}

-- a halted machine stays as it is, whatever stubs there are
pub step_halted : (images : List Entry) (s : MachineState) (h : Halt) → s.halt ≡ Some h → (machine_step images s).now ≡ s
unfolding machine_step
step_halted images s h e =
    ap (λ (o : Option Halt). (unless_halted s o (outcome_of_turn images s (result_of_instruction s))).now) e

none_ahead : (stubs : List Stub) (s : MachineState) (h : Halt) → s.halt ≡ Some h → deed_ahead stubs s ≡ None
none_ahead [] s h e = refl
none_ahead (stub ∷ rest) s h e =
    ap (λ (o : Option Halt). deed_unless_halted o (deed_that_fits s (deed_next (stub ∷ rest) s))) e

stubbed_halted : (stubs : List Stub) (images : List Entry) (s : MachineState) (h : Halt) → s.halt ≡ Some h
    → (stubbed_step stubs images s).now ≡ s
stubbed_halted stubs images s h e =
    ap (λ (o : Option StubDeedState). (step_or_deed images s o).now) (none_ahead stubs s h e) ∙ step_halted images s h e

pub steps_halted : (stubs : List Stub) (images : List Entry) (k : ℕ) (s : MachineState) (h : Halt) → s.halt ≡ Some h
    → steps_after stubs images k s ≡ s
unfolding steps_after
steps_halted stubs images zero s h e = refl
steps_halted stubs images (suc k) s h e =
    ap (λ (t : MachineState). steps_after stubs images k t) (stubbed_halted stubs images s h e)
    ∙ steps_halted stubs images k s h e

-- a step that ends in a fault is the machine's: no stub halts it
halt_after_deed : (d : StubDeedState) (s : MachineState) → (machine_after_deed d s).halt ≡ s.halt
halt_after_deed d s =
    settings_halt d.settings (machine_after_put s d.at d.bytes) ∙ put_halt s d.at d.bytes

fault_by : (stubs : List Stub) (images : List Entry) (s : MachineState) (o : Option StubDeedState) (h : Option Halt)
    → deed_ahead stubs s ≡ o → s.halt ≡ h → is_faulted (step_or_deed images s o).now.halt ≡ true
    → (step_or_deed images s o).now ≡ (machine_step images s).now
fault_by stubs images s None h is up e = refl
fault_by stubs images s (Some d) None is up e =
    let none : is_faulted (machine_after_deed d s).halt ≡ false = ap is_faulted (halt_after_deed d s ∙ up) in
    absurd (cc (e, none))
fault_by stubs images s (Some d) (Some h) is up e =
    let none : deed_ahead stubs s ≡ None = none_ahead stubs s h up in
    absurd (cc (is, none))

pub fault_is_step : (stubs : List Stub) (images : List Entry) (s : MachineState)
    → is_faulted (stubbed_step stubs images s).now.halt ≡ true → (stubbed_step stubs images s).now ≡ (machine_step images s).now
fault_is_step stubs images s e = fault_by stubs images s (deed_ahead stubs s) s.halt refl refl e

-- steps, and then more of them
pub steps_added : (stubs : List Stub) (images : List Entry) (n m : ℕ) (s : MachineState)
    → steps_after stubs images (n + m) s ≡ steps_after stubs images m (steps_after stubs images n s)
unfolding steps_after
steps_added stubs images zero m s = let e : 0 + m ≡ m = omega arith in ap (λ (k : ℕ). steps_after stubs images k s) e
steps_added stubs images (suc n) m s =
    let e : suc n + m ≡ suc (n + m) = omega arith in
    ap (λ (k : ℕ). steps_after stubs images k s) e ∙ steps_added stubs images n m (stubbed_step stubs images s).now

-- what is left of so many steps after a run
abbrev pub LeadsOn : List Entry → ℕ → MachineState → Run → Type 0
LeadsOn images n s r = steps_after [] images n s ≡ steps_after [] images (n - r.taken) r.now

leads_resting : (images : List Entry) (n : ℕ) (s : MachineState) (x : Stop) → LeadsOn images n s (resting s x)
leads_resting images n s x = let e : n ≡ n - 0 = omega arith in ap (λ (k : ℕ). steps_after [] images k s) e

leads_branch : (images : List Entry) (n : ℕ) (b : Bool) (now : MachineState) (printed : List ℕ) (r : Run)
    → LeadsOn images n now r
    → (let broken : Run = record { now = now; printed = printed; last = Some printed; taken = 1; stop = stop.Break now.cpu.pc } in
    let after : Run = if b then broken else run_after_steps printed (Some printed) 1 r in
    steps_after [] images n now ≡ steps_after [] images (suc n - after.taken) after.now)
leads_branch images n true now printed r more = let e : n ≡ suc n - 1 = omega arith in ap (λ (k : ℕ). steps_after [] images k now) e
leads_branch images n false now printed r more =
    let e : n - r.taken ≡ suc n - (1 + r.taken) = omega arith in
    more ∙ ap (λ (k : ℕ). steps_after [] images k r.now) e

leads_go : (images : List Entry) (breaks : List ℕ) (n : ℕ) (a : StepOutcome) (o : Option Halt) (rest : MachineState → Run)
    → a.now.halt ≡ o → ((x : MachineState) → LeadsOn images n x (rest x))
    → (let after = go_on breaks a o rest in steps_after [] images n a.now ≡ steps_after [] images (suc n - after.taken) after.now)
leads_go images breaks n a (Some h) rest e more =
    steps_halted [] images n a.now h e ∙ sym (steps_halted [] images (suc n - halt_step_count h) a.now h e)
leads_go images breaks n a None rest e more =
    leads_branch images n (is_among breaks a.now.cpu.pc) a.now a.printed (rest a.now) (more a.now)

leads_start : (images : List Entry) (breaks : List ℕ) (n : ℕ) (s : MachineState) (o : Option Halt) (rest : MachineState → Run)
    → s.halt ≡ o → ((x : MachineState) → LeadsOn images n x (rest x))
    → LeadsOn images (suc n) s (run_unless_halted s o (go_on breaks (machine_step images s) (machine_step images s).now.halt rest))
unfolding steps_after
leads_start images breaks n s (Some h) rest e more = leads_resting images (suc n) s (stop_of h)
leads_start images breaks n s None rest e more =
    leads_go images breaks n (machine_step images s) (machine_step images s).now.halt rest refl more

leads_none : (images : List Entry) (s : MachineState) (o : Option Halt) → LeadsOn images zero s (run_unless_halted s o (resting s stop.Budget))
leads_none images s (Some h) = leads_resting images zero s (stop_of h)
leads_none images s None = leads_resting images zero s stop.Budget

pub run_leads : (images : List Entry) (breaks : List ℕ) (n : ℕ) (s : MachineState) → LeadsOn images n s (ran images breaks n s)
unfolding ran
run_leads images breaks zero s = leads_none images s s.halt
run_leads images breaks (suc n) s =
    leads_start images breaks n s s.halt (ran images breaks n) refl (run_leads images breaks n)

-- a run that took no step of some leaves the machine halted
halted_branch : (b : Bool) (now : MachineState) (printed : List ℕ) (r : Run)
    → (let broken : Run = record { now = now; printed = printed; last = Some printed; taken = 1; stop = stop.Break now.cpu.pc } in
    let after : Run = if b then broken else run_after_steps printed (Some printed) 1 r in
    after.taken ≡ 0 → after.now.halt ≢ None)
halted_branch true now printed r e = absurd (omega (arith, e))
halted_branch false now printed r e = absurd (omega (arith, e))

halted_go : (breaks : List ℕ) (a : StepOutcome) (o : Option Halt) (rest : MachineState → Run) → a.now.halt ≡ o
    → (go_on breaks a o rest).taken ≡ 0 → (go_on breaks a o rest).now.halt ≢ None
halted_go breaks a (Some h) rest e none = λ f. absurd (cc)
halted_go breaks a None rest e none = halted_branch (is_among breaks a.now.cpu.pc) a.now a.printed (rest a.now) none

halted_start : (images : List Entry) (breaks : List ℕ) (s : MachineState) (o : Option Halt) (rest : MachineState → Run) → s.halt ≡ o
    → (let r = run_unless_halted s o (go_on breaks (machine_step images s) (machine_step images s).now.halt rest) in
    r.taken ≡ 0 → r.now.halt ≢ None)
halted_start images breaks s (Some h) rest e none = λ f. absurd (cc)
halted_start images breaks s None rest e none =
    halted_go breaks (machine_step images s) (machine_step images s).now.halt rest refl none

pub run_or_halted : (images : List Entry) (breaks : List ℕ) (n : ℕ) (s : MachineState)
    → (ran images breaks (suc n) s).taken ≡ 0 → (ran images breaks (suc n) s).now.halt ≢ None
unfolding ran
run_or_halted images breaks n s none = halted_start images breaks s s.halt (ran images breaks n) refl none

pub runs_are_steps : RunsAreTheirSteps
runs_are_steps images breaks count s = run_leads images breaks count s

pub never_none : (n : ℕ) → (suc n == 0) ≡ false
never_none n = grind (arith, nat_tests)

-- moments after none of some steps, and of a machine that is halted
pub none_left : (stubs : List Stub) (images : List Entry) (m : PastMoment) → moment_after_steps stubs images 0 m ≡ m
unfolding steps_after
none_left stubs images m = λ i. record { machine = m.machine; is_fresh = and-true m.is_fresh i }

pub halted_left : (stubs : List Stub) (images : List Entry) (left : ℕ) (m : PastMoment) (h : Halt) → m.machine.halt ≡ Some h → m.is_fresh ≡ false
    → moment_after_steps stubs images left m ≡ m
halted_left stubs images left m h halted old =
    let same = steps_halted stubs images left m.machine h halted in
    let fresh : (m.is_fresh && (left == 0)) ≡ m.is_fresh = ap (λ (b : Bool). b && (left == 0)) old ∙ sym old in
    λ i. record { machine = same i; is_fresh = fresh i }
