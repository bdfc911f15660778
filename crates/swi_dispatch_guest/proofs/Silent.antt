-- Steps that the core does by itself print nothing and halt nothing: so many of them are a run.
use Rattle.std.proofs.Common.{◌≡◌, ℕ, zero, suc, ◌+◌, Option, Some, None, List, [], Result, Ok, Err, refl, sym, ◌∙◌, ap, subst, arith, Bool, if◌then◌else◌}
use Rattle.profile.specs.declared.stop.Stop.{Stop}
use Rattle.profile.specs.declared.stop.Stop.TheVariants as stop
use Rattle.os_heap.specs.Bytes.{Bytes}
use Rattle.arm_run.specs.StepEnd.{StepEnd}
use Rattle.arm_run.specs.StepEnd.TheVariants as turn
use Rattle.arm_run.specs.State.{State}
use Rattle.swi_dispatch_plans.specs.Entries.{Entry}
use Rattle.swi_dispatch_guest.specs.declared.halt.Halt.{Halt}
use Rattle.swi_dispatch_guest.specs.MachineState.{MachineState, StepOutcome, silent}
use Rattle.swi_dispatch_guest.specs.Step.{outcome_of_turn, Turned, result_of_instruction, unless_halted, machine_step}
use Rattle.swi_dispatch_guest.specs.GuestState.{TakesTurn}
use Rattle.swi_dispatch_guest.specs.Run.{Run, is_among, last_or, ran, then_run, silent_last, silent_run, stop_after}
use Rattle.swi_dispatch_guest.proofs.RunLoop.{one_step, one_run, ran-none, steps_more}

done_by : (images : List Entry) (s : MachineState) (r : Result (State × Bytes) StepEnd) (s' : MachineState) → Turned s r turn.Done s'
    → (outcome_of_turn images s r ≡ silent s') × (s'.halt ≡ s.halt)
done_by images s (Ok w) s' h = (ap silent (sym h.1), ap (λ (x : MachineState). x.halt) h.1)
done_by images s (Err e) s' h = (ap (λ (t : StepEnd). outcome_of_turn images s (Err t)) (sym h.0) ∙ ap silent (sym h.1), ap (λ (x : MachineState). x.halt) h.1)

pub done_unhalted : (s s' : MachineState) (t : StepEnd) → t ≡ turn.Done → s.halt ≡ None → TakesTurn s t s' → s'.halt ≡ None
done_unhalted s s' t done unhalted h = (done_by [] s (result_of_instruction s) s' (subst (λ (x : StepEnd). TakesTurn s x s') done h)).1 ∙ unhalted

pub done_step : (images : List Entry) (s s' : MachineState) → s.halt ≡ None → TakesTurn s turn.Done s' → machine_step images s ≡ silent s'
unfolding machine_step
done_step images s s' unhalted h =
    ap (λ (o : Option Halt). unless_halted s o (outcome_of_turn images s (result_of_instruction s))) unhalted ∙ (done_by images s (result_of_instruction s) s' h).0

-- where a run of one such step ends
pub ends_by : (breaks : List ℕ) (s : MachineState) (b : Bool) → is_among breaks s.cpu.pc ≡ b
    → stop_after breaks s None ≡ (if b then stop.Break s.cpu.pc else stop.Budget)
ends_by breaks s b h = ap (λ (c : Bool). if c then stop.Break s.cpu.pc else stop.Budget) h

silent_one : (images : List Entry) (breaks : List ℕ) (s s' : MachineState) (x : Stop) → s.halt ≡ None → stop_after breaks s' None ≡ x → TakesTurn s turn.Done s'
    → ran images breaks 1 s ≡ silent_run s' 1 x
silent_one images breaks s s' x unhalted end h =
    one_run images breaks s unhalted ∙ ap (λ (a : StepOutcome). one_step breaks a a.now.halt) (done_step images s s' unhalted h)
    ∙ ap (one_step breaks (silent s')) (done_unhalted s s' turn.Done refl unhalted h) ∙ ap (silent_run s' 1) end

silent_goes_on : (s : MachineState) (n : ℕ) → (silent_run s n stop.Budget).stop ≡ stop.Budget
silent_goes_on s zero = refl
silent_goes_on s (suc n) = refl

pub silent_now : (s : MachineState) (n : ℕ) (x : Stop) → (silent_run s n x).now ≡ s
silent_now s zero x = refl
silent_now s (suc n) x = refl

silent_joins : (s s' : MachineState) (n : ℕ) (x : Stop) → then_run (silent_run s n stop.Budget) (silent_run s' 1 x) ≡ silent_run s' (n + 1) x
silent_joins s s' zero x = refl
silent_joins s s' (suc n) x = let e : suc n + 1 ≡ suc (suc n) = omega arith in
    ap (λ (k : ℕ). let r : Run = record { now = s'; printed = []; last = Some []; taken = k; stop = x } in r) e
    ∙ ap (λ (k : ℕ). silent_run s' k x) (sym e)

-- none, and one more
pub silent_start : (images : List Entry) (breaks : List ℕ) (s : MachineState) → s.halt ≡ None → ran images breaks 0 s ≡ silent_run s 0 stop.Budget
silent_start images breaks s unhalted = ran-none images breaks s unhalted

pub silent_more : (images : List Entry) (breaks : List ℕ) (s0 s s' : MachineState) (n : ℕ) (t : StepEnd) (x : Stop) → t ≡ turn.Done
    → ran images breaks n s0 ≡ silent_run s n stop.Budget → s.halt ≡ None → stop_after breaks s' None ≡ x → TakesTurn s t s'
    → ran images breaks (n + 1) s0 ≡ silent_run s' (n + 1) x
silent_more images breaks s0 s s' n t x done so_far unhalted end h =
    steps_more images breaks s0 s n 1 (ap (λ (r : Run). r.stop) so_far ∙ silent_goes_on s n)
    (sym (ap (λ (r : Run). r.now) so_far ∙ silent_now s n stop.Budget))
    ∙ ap (λ (r : Run). then_run r (ran images breaks 1 s)) so_far
    ∙ ap (then_run (silent_run s n stop.Budget))
    (silent_one images breaks s s' x unhalted end (subst (λ (u : StepEnd). TakesTurn s u s') done h))
    ∙ silent_joins s s' n x

-- what it prints, where nothing was printed before
pub none_shown : (n : ℕ) (before after : List ℕ) → before ≡ [] → after ≡ last_or before (silent_last n) → after ≡ []
none_shown zero before after none is = is ∙ none
none_shown (suc n) before after none is = is
