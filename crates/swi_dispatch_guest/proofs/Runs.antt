-- Runs add up, and a run that ended for another reason than its budget goes no further.
use Rattle.std.proofs.Common.{◌≡◌, ℕ, Bool, true, false, zero, suc, ◌+◌, Option, Some, None, List, ◌++◌, refl, sym, ◌∙◌, ap, arith, append_assoc, if◌then◌else◌}
use Rattle.profile.specs.declared.stop.Stop.{Stop}
use Rattle.profile.specs.declared.stop.Stop.TheVariants as stop
use Rattle.swi_dispatch_plans.specs.Entries.{Entry}
use Rattle.swi_dispatch_guest.specs.declared.halt.Halt.{Halt}
use Rattle.swi_dispatch_guest.specs.declared.halt.Halt.TheVariants as halt
use Rattle.swi_dispatch_guest.specs.MachineState.{MachineState, StepOutcome, stop_of}
use Rattle.swi_dispatch_guest.specs.Step.{machine_step}
use Rattle.swi_dispatch_guest.specs.Run.{Run, resting, later_text, run_after_steps, is_among, go_on, run_unless_halted, ran, then_run, RunsOn}

-- the stop that a machine keeps is no budget
pub halt-no_budget : (h : Halt) → stop_of h ≡ stop.Budget → ⊥
halt-no_budget halt.Exit e = cc
halt-no_budget (halt.Fault f) e = cc

later-none : {A : Type 0} (o : Option A) → later_text None o ≡ o
later-none None = refl
later-none (Some x) = refl

later-assoc : {A : Type 0} (a b c : Option A) → later_text (later_text a b) c ≡ later_text a (later_text b c)
later-assoc a b None = refl
later-assoc a b (Some x) = refl

pub then_run-resting : (s : MachineState) (x : Stop) (r : Run) → then_run (resting s x) r ≡ r
then_run-resting s x r =
    let count : 0 + r.taken ≡ r.taken = omega arith in
    let last : later_text None r.last ≡ r.last = later-none r.last in
    λ i. record { now = r.now; printed = r.printed; last = last i; taken = count i; stop = r.stop }

pub then_run-joined : (printed : List ℕ) (last : Option (List ℕ)) (k : ℕ) (r q : Run) → then_run (run_after_steps printed last k r) q ≡ run_after_steps printed last k (then_run r q)
then_run-joined printed last k r q =
    let texts : (printed ++ r.printed) ++ q.printed ≡ printed ++ (r.printed ++ q.printed) = append_assoc printed r.printed q.printed in
    let lasts : later_text (later_text last r.last) q.last ≡ later_text last (later_text r.last q.last) = later-assoc last r.last q.last in
    let counts : (k + r.taken) + q.taken ≡ k + (r.taken + q.taken) = omega arith in
    λ i. record { now = q.now; printed = texts i; last = lasts i; taken = counts i; stop = q.stop }

-- one step and the run after it add up as that run does
pub branch_adds : (b : Bool) (now : MachineState) (printed : List ℕ) (r r' : Run) (more : MachineState → Run)
    → (r.stop ≡ stop.Budget → r' ≡ then_run r (more r.now))
    → (let broken : Run = record { now = now; printed = printed; last = Some printed; taken = 1; stop = stop.Break now.cpu.pc } in
    (if b then broken else run_after_steps printed (Some printed) 1 r).stop ≡ stop.Budget
    → (if b then broken else run_after_steps printed (Some printed) 1 r') ≡ then_run (if b then broken else run_after_steps printed (Some printed) 1 r) (more (if b then broken else run_after_steps printed (Some printed) 1 r).now))
branch_adds true now printed r r' more h e = cc
branch_adds false now printed r r' more h e = ap (run_after_steps printed (Some printed) 1) (h e) ∙ sym (then_run-joined printed (Some printed) 1 r (more r.now))

pub step_adds : (breaks : List ℕ) (s : MachineState) (o : Option Halt) (a : StepOutcome) (ao : Option Halt) (rest rest' more : MachineState → Run)
    → ((x : MachineState) → (rest x).stop ≡ stop.Budget → rest' x ≡ then_run (rest x) (more (rest x).now))
    → (run_unless_halted s o (go_on breaks a ao rest)).stop ≡ stop.Budget
    → run_unless_halted s o (go_on breaks a ao rest') ≡ then_run (run_unless_halted s o (go_on breaks a ao rest)) (more (run_unless_halted s o (go_on breaks a ao rest)).now)
step_adds breaks s (Some h) a ao rest rest' more adds e = absurd (halt-no_budget h e)
step_adds breaks s None a (Some h) rest rest' more adds e = absurd (halt-no_budget h e)
step_adds breaks s None a None rest rest' more adds e =
    branch_adds (is_among breaks a.now.cpu.pc) a.now a.printed (rest a.now) (rest' a.now) more (adds a.now) e

pub start_adds : (s : MachineState) (o : Option Halt) (more : MachineState → Run)
    → (run_unless_halted s o (resting s stop.Budget)).stop ≡ stop.Budget
    → more s ≡ then_run (run_unless_halted s o (resting s stop.Budget)) (more (run_unless_halted s o (resting s stop.Budget)).now)
start_adds s (Some h) more e = absurd (halt-no_budget h e)
start_adds s None more e = sym (then_run-resting s stop.Budget (more s))

pub runs_on : (images : List Entry) (breaks : List ℕ) (n m : ℕ) (s : MachineState) → RunsOn images breaks s n m
unfolding ran
runs_on images breaks zero m s e = let k : 0 + m ≡ m = omega arith in ap (λ (x : ℕ). ran images breaks x s) k ∙ start_adds s s.halt (ran images breaks m) e
runs_on images breaks (suc n) m s e =
    let k : suc n + m ≡ suc (n + m) = omega arith in
    ap (λ (x : ℕ). ran images breaks x s) k
    ∙ step_adds breaks s s.halt (machine_step images s) (machine_step images s).now.halt (ran images breaks n) (ran images breaks (n + m)) (ran images breaks m) (λ x h. runs_on images breaks n m x h) e
