-- The loop of a run, step by step: what stands after some steps and one more is what the written
-- run says.
use Rattle.std.proofs.Common.{◌≡◌, ◌≢◌, ◌<◌, ◌≤◌, ℕ, Bool, true, false, zero, suc, ◌+◌, ◌-◌, Option, Some, None, List, [], ◌++◌, refl, sym, ◌∙◌, ap, subst, arith, if◌then◌else◌, ◌&&◌, ◌==◌}
use Rattle.std.proofs.lemmas.Bool.Decides.{nat_tests}
use Rattle.std.proofs.lemmas.List.{append-nil}
use Rattle.profile.proofs.OutputLemmas.{Appends-join}
use Rattle.std.specs.Option.{option_map}
use Rattle.std.specs.Io.KnownBytes.{Appends}
use Rattle.profile.specs.Output.{AddsPart}
use Rattle.profile.specs.declared.stop.Stop.{Stop}
use Rattle.profile.specs.declared.stop.Stop.TheVariants as stop
use Rattle.swi_dispatch_plans.specs.Entries.{Entry}
use Rattle.swi_dispatch_guest.specs.declared.halt.Halt.{Halt}
use Rattle.swi_dispatch_guest.specs.MachineState.{MachineState, StepOutcome, stop_of}
use Rattle.swi_dispatch_guest.specs.Step.{machine_step}
use Rattle.swi_dispatch_guest.specs.Run.{Run, resting, run_after_steps, is_among, go_on, run_unless_halted, ran, then_run, later_text, last_or, silent_run, silent_last, stop_after, count_after}
use Rattle.swi_dispatch_guest.proofs.Runs.{halt-no_budget, runs_on}

-- a halted machine takes no step
pub ran-halted : (images : List Entry) (breaks : List ℕ) (n : ℕ) (s : MachineState) (h : Halt) → s.halt ≡ Some h → ran images breaks n s ≡ resting s (stop_of h)
unfolding ran
ran-halted images breaks zero s h e = ap (λ (o : Option Halt). run_unless_halted s o (resting s stop.Budget)) e
ran-halted images breaks (suc n) s h e =
    ap (λ (o : Option Halt). run_unless_halted s o (go_on breaks (machine_step images s) (machine_step images s).now.halt (ran images breaks n))) e

-- the run of no step
pub ran-none : (images : List Entry) (breaks : List ℕ) (s : MachineState) → s.halt ≡ None → ran images breaks zero s ≡ resting s stop.Budget
unfolding ran
ran-none images breaks s e = ap (λ (o : Option Halt). run_unless_halted s o (resting s stop.Budget)) e

-- the run of one step, by what the step left
abbrev pub one_step : List ℕ → StepOutcome → Option Halt → Run
one_step breaks a o = record { now = a.now; printed = a.printed; last = Some a.printed; taken = count_after o; stop = stop_after breaks a.now o }

one_branch : (b : Bool) (now : MachineState) (printed : List ℕ) (r : Run) → r ≡ resting now stop.Budget
    → (let broken : Run = record { now = now; printed = printed; last = Some printed; taken = 1; stop = stop.Break now.cpu.pc } in
    let end : Stop = if b then stop.Break now.cpu.pc else stop.Budget in
    let one : Run = record { now = now; printed = printed; last = Some printed; taken = 1; stop = end } in
    (if b then broken else run_after_steps printed (Some printed) 1 r) ≡ one)
one_branch true now printed r e = refl
one_branch false now printed r e = ap (run_after_steps printed (Some printed) 1) e
    ∙ ap (λ (xs : List ℕ). let q : Run = record { now = now; printed = xs; last = Some printed; taken = 1; stop = stop.Budget } in q) (append-nil printed)

one_go : (images : List Entry) (breaks : List ℕ) (a : StepOutcome) (o : Option Halt) → a.now.halt ≡ o → go_on breaks a o (ran images breaks zero) ≡ one_step breaks a o
one_go images breaks a (Some h) e = refl
one_go images breaks a None e = one_branch (is_among breaks a.now.cpu.pc) a.now a.printed (ran images breaks zero a.now) (ran-none images breaks a.now e)

pub one_run : (images : List Entry) (breaks : List ℕ) (s : MachineState) → s.halt ≡ None → ran images breaks 1 s ≡ one_step breaks (machine_step images s) (machine_step images s).now.halt
unfolding ran
one_run images breaks s e =
    ap (λ (o : Option Halt). run_unless_halted s o (go_on breaks (machine_step images s) (machine_step images s).now.halt (ran images breaks zero))) e
    ∙ one_go images breaks (machine_step images s) (machine_step images s).now.halt refl

-- a run that ended for another reason than its budget goes no further
start_stays : (images : List Entry) (breaks : List ℕ) (s : MachineState) (o : Option Halt) (m : ℕ) → s.halt ≡ o
    → (run_unless_halted s o (resting s stop.Budget)).stop ≢ stop.Budget → ran images breaks m s ≡ run_unless_halted s o (resting s stop.Budget)
start_stays images breaks s (Some h) m e other = ran-halted images breaks m s h e
start_stays images breaks s None m e other = absurd (other refl)

branch_stays : (b : Bool) (now : MachineState) (printed : List ℕ) (r r' : Run)
    → (r.stop ≢ stop.Budget → r' ≡ r)
    → (let broken : Run = record { now = now; printed = printed; last = Some printed; taken = 1; stop = stop.Break now.cpu.pc } in
    (if b then broken else run_after_steps printed (Some printed) 1 r).stop ≢ stop.Budget
    → (if b then broken else run_after_steps printed (Some printed) 1 r') ≡ (if b then broken else run_after_steps printed (Some printed) 1 r))
branch_stays true now printed r r' h other = refl
branch_stays false now printed r r' h other = ap (run_after_steps printed (Some printed) 1) (h other)

step_stays : (breaks : List ℕ) (s : MachineState) (o : Option Halt) (a : StepOutcome) (ao : Option Halt) (rest rest' : MachineState → Run)
    → ((x : MachineState) → (rest x).stop ≢ stop.Budget → rest' x ≡ rest x)
    → (run_unless_halted s o (go_on breaks a ao rest)).stop ≢ stop.Budget
    → run_unless_halted s o (go_on breaks a ao rest') ≡ run_unless_halted s o (go_on breaks a ao rest)
step_stays breaks s (Some h) a ao rest rest' stays other = refl
step_stays breaks s None a (Some h) rest rest' stays other = refl
step_stays breaks s None a None rest rest' stays other =
    branch_stays (is_among breaks a.now.cpu.pc) a.now a.printed (rest a.now) (rest' a.now) (stays a.now) other

pub no_further : (images : List Entry) (breaks : List ℕ) (n m : ℕ) (s : MachineState) → (ran images breaks n s).stop ≢ stop.Budget → ran images breaks (n + m) s ≡ ran images breaks n s
unfolding ran
no_further images breaks zero m s other = let k : 0 + m ≡ m = omega arith in
    ap (λ (x : ℕ). ran images breaks x s) k ∙ start_stays images breaks s s.halt m refl other
no_further images breaks (suc n) m s other = let k : suc n + m ≡ suc (n + m) = omega arith in
    ap (λ (x : ℕ). ran images breaks x s) k
    ∙ step_stays breaks s s.halt (machine_step images s) (machine_step images s).now.halt (ran images breaks n) (ran images breaks (n + m)) (λ x h. no_further images breaks n m x h) other

pub no_further_in : (images : List Entry) (breaks : List ℕ) (n budget : ℕ) (s : MachineState) → n ≤ budget → (ran images breaks n s).stop ≢ stop.Budget → ran images breaks budget s ≡ ran images breaks n s
no_further_in images breaks n budget s le other =
    let k : n + (budget - n) ≡ budget = omega arith in
    ap (λ (x : ℕ). ran images breaks x s) (sym k) ∙ no_further images breaks n (budget - n) s other

-- so many steps and then so many
pub steps_more : (images : List Entry) (breaks : List ℕ) (s0 s : MachineState) (n m : ℕ) → (ran images breaks n s0).stop ≡ stop.Budget → s ≡ (ran images breaks n s0).now
    → ran images breaks (n + m) s0 ≡ then_run (ran images breaks n s0) (ran images breaks m s)
steps_more images breaks s0 s n m budget now =
    runs_on images breaks n m s0 budget ∙ ap (λ (x : MachineState). then_run (ran images breaks n s0) (ran images breaks m x)) (sym now)

pub halt-none : (o : Option Halt) (r : Option Stop) → r ≡ option_map stop_of o → r ≡ None → o ≡ None
halt-none (Some h) r e none = cc
halt-none None r e none = refl

pub one_count : (breaks : List ℕ) (s : MachineState) (o : Option Halt) → stop_after breaks s o ≡ stop.Budget → count_after o ≡ 1
one_count breaks s (Some h) e = absurd (halt-no_budget h e)
one_count breaks s None e = refl
