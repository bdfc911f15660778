-- The turn that comes next is what a step asks of the machine.
use Rattle.std.proofs.Common.{◌≡◌, ◌<◌, ◌≤◌, ◌%◌, ◌^◌, ℕ, true, zero, suc, Option, None, List, [], sym, ◌∙◌, ap, subst, arith}
use Rattle.profile.specs.declared.stop.Stop.{Stop}
use Rattle.profile.specs.declared.stop.Stop.TheVariants as stop
use Rattle.arm_run.specs.StepEnd.{StepEnd}
use Rattle.swi_dispatch_plans.specs.Entries.{Entry}
use Rattle.swi_dispatch_guest.specs.declared.halt.Halt.{Halt}
use Rattle.swi_dispatch_guest.specs.MachineState.{MachineState, StepOutcome, silent}
use Rattle.swi_dispatch_guest.specs.Step.{outcome_of_call, outcome_of_turn, turn_end, result_of_instruction, store_called, unless_halted, machine_step, without_x}
use Rattle.swi_dispatch_guest.specs.GuestState.{TakesTurn}
use Rattle.swi_dispatch_guest.specs.Run.{Run, ran, silent_run}
use Rattle.swi_dispatch_guest.proofs.RunLoop.{one_run, ran-none}
use Rattle.swi_dispatch_guest.proofs.Turning.{turned_by}

pub unhalted_step : (images : List Entry) (s : MachineState) → s.halt ≡ None → machine_step images s ≡ outcome_of_turn images s (result_of_instruction s)
unfolding machine_step
unhalted_step images s unhalted = ap (λ (o : Option Halt). unless_halted s o (outcome_of_turn images s (result_of_instruction s))) unhalted

-- a call from outside, of a machine that isn't halted
pub outside_call : (images : List Entry) (s : MachineState) (number : ℕ) → s.halt ≡ None
    → store_called images s number ≡ outcome_of_call images s true s.cpu.pc (without_x (number % 2 ^ 24))
unfolding store_called
outside_call images s number unhalted =
    ap (λ (o : Option Halt). unless_halted s o (outcome_of_call images s true s.cpu.pc (without_x (number % 2 ^ 24)))) unhalted

-- a turn that is known, of a machine that it leaves as it is
pub known_turn : (images : List Entry) (s : MachineState) (t : StepEnd) → s.halt ≡ None → TakesTurn s t s → turn_end images s t ≡ machine_step images s
known_turn images s t unhalted h = turned_by images s (result_of_instruction s) t s h ∙ sym (unhalted_step images s unhalted)

abbrev left_by : Run → StepOutcome
left_by r = record { now = r.now; printed = r.printed }

-- a silent run of one step is the step
one_done : (images : List Entry) (s s' : MachineState) (x : Stop) → s.halt ≡ None → ran images [] 1 s ≡ silent_run s' 1 x → silent s' ≡ machine_step images s
one_done images s s' x unhalted h = ap left_by (sym h ∙ one_run images [] s unhalted)

-- a run of no step leaves the machine as it is
none_done : (images : List Entry) (s s' : MachineState) (x : Stop) → s.halt ≡ None → ran images [] 0 s ≡ silent_run s' 0 x → s' ≡ s
none_done images s s' x unhalted h = ap (λ (r : Run). r.now) (sym h ∙ ran-none images [] s unhalted)

-- What a run of at most one step leaves for the machine to do: its turn, where one is known, and
-- else nothing.
pub turn_left : (images : List Entry) (s s' : MachineState) (n : ℕ) (t : StepEnd) → s.halt ≡ None → s'.halt ≡ None
    → ran images [] n s ≡ silent_run s' n stop.Budget → n < 1 → TakesTurn s' t s' → turn_end images s' t ≡ machine_step images s
turn_left images s s' n t unhalted unhalted' h fewer next =
    let none : n ≡ 0 = omega (arith, fewer) in
    let same : s' ≡ s = none_done images s s' stop.Budget unhalted (subst (λ (k : ℕ). ran images [] k s ≡ silent_run s' k stop.Budget) none h) in
    known_turn images s' t unhalted' next ∙ ap (machine_step images) same

budget_alone : (images : List Entry) (s s' : MachineState) (x : Stop) → s.halt ≡ None → ran images [] 0 s ≡ silent_run s' 0 x → x ≡ stop.Budget
budget_alone images s s' x unhalted h = ap (λ (r : Run). r.stop) (sym h ∙ ran-none images [] s unhalted)

pub nothing_left : (images : List Entry) (s s' : MachineState) (n : ℕ) (x : Stop) → s.halt ≡ None → ran images [] n s ≡ silent_run s' n x → n ≤ 1
    → (x ≡ stop.Budget → n ≡ 1) → silent s' ≡ machine_step images s
nothing_left images s s' zero x unhalted h most all =
    let one : 0 ≡ 1 = all (budget_alone images s s' x unhalted h) in absurd (omega (arith, one))
nothing_left images s s' (suc n) x unhalted h most all =
    let one : suc n ≡ 1 = omega (arith, most) in
    one_done images s s' x unhalted (subst (λ (k : ℕ). ran images [] k s ≡ silent_run s' k x) one h)
