-- A run: steps until the machine is halted, or the new program counter is among the breaks, or the
-- budget is used up, tested in that order after each step. A start on a break isn't tested. A step
-- that ends in a fault isn't counted; that of OS_Exit is.
use Rattle.std.specs.Prelude.{◌≡◌, ℕ, zero, suc, ◌+◌, Option, Some, None, Result, Ok, Err, List, [], ◌++◌, if◌then◌else◌}
use Rattle.profile.specs.declared.stop.Stop.{Stop}
use Rattle.profile.specs.declared.stop.Stop.TheVariants as stop
use Rattle.swi_dispatch_plans.specs.Entries.{Entry}
use Rattle.arm_run.specs.StepEnd.{StepEnd}
unfoldable pub use Rattle.arm_run.specs.Breaks.{is_among}
use Rattle.swi_dispatch_guest.specs.declared.halt.Halt.{Halt}
use Rattle.swi_dispatch_guest.specs.declared.halt.Halt.TheVariants as halt
use Rattle.swi_dispatch_guest.specs.MachineState.{MachineState, StepOutcome, stop_of}
use Rattle.swi_dispatch_guest.specs.Step.{machine_step}

-- what a run leaves: the machine, all that was printed, what the last step printed, if there was a
-- step, the steps that count, and why it ended
pub record Run : Type 0 where
  pub now : MachineState
  pub printed : List ℕ
  pub last : Option (List ℕ)
  pub taken : ℕ
  pub stop : Stop

abbrev pub resting : MachineState → Stop → Run
resting s x = record { now = s; printed = []; last = None; taken = 0; stop = x }

abbrev pub halt_step_count : Halt → ℕ
halt_step_count halt.Exit = 1
halt_step_count (halt.Fault f) = 0

-- the later of two texts, where there is one
abbrev pub later_text : {A : Type 0} → Option A → Option A → Option A
later_text first None = first
later_text first (Some x) = Some x

-- a run after steps that printed so much, the last of them this, and of which so many count
abbrev pub run_after_steps : List ℕ → Option (List ℕ) → ℕ → Run → Run
run_after_steps printed last taken r =
    record r { printed = printed ++ r.printed; last = later_text last r.last; taken = taken + r.taken }

abbrev pub go_on : List ℕ → StepOutcome → Option Halt → (MachineState → Run) → Run
go_on breaks a (Some h) rest =
    record {
      now = a.now;
      printed = a.printed;
      last = Some a.printed;
      taken = halt_step_count h;
      stop = stop_of h;
    }
go_on breaks a None rest = if is_among breaks a.now.cpu.pc
    then record {
      now = a.now;
      printed = a.printed;
      last = Some a.printed;
      taken = 1;
      stop = stop.Break a.now.cpu.pc;
    }
    else run_after_steps a.printed (Some a.printed) 1 (rest a.now)

abbrev pub run_unless_halted : MachineState → Option Halt → Run → Run
run_unless_halted s (Some h) r = resting s (stop_of h)
run_unless_halted s None r = r

unfoldable pub ran : List Entry → List ℕ → ℕ → MachineState → Run
ran images breaks zero s = run_unless_halted s s.halt (resting s stop.Budget)
ran images breaks (suc n) s =
    run_unless_halted s s.halt
    (go_on breaks (machine_step images s) (machine_step images s).now.halt (ran images breaks n))

-- one run and then another from where it stopped
abbrev pub then_run : Run → Run → Run
then_run first second = run_after_steps first.printed first.last first.taken second

-- Runs add up: where n steps end with the budget used up, n steps and then m are n + m.
abbrev pub RunsOn : List Entry → List ℕ → MachineState → ℕ → ℕ → Type 0
RunsOn images breaks s n m = (let first = ran images breaks n s in
    first.stop ≡ stop.Budget → ran images breaks (n + m) s ≡ then_run first (ran images breaks m first.now))

-- why a run of one step ended, and how it counts, by what the step left
abbrev pub stop_after : List ℕ → MachineState → Option Halt → Stop
stop_after breaks s (Some h) = stop_of h
stop_after breaks s None = if is_among breaks s.cpu.pc then stop.Break s.cpu.pc else stop.Budget

abbrev pub count_after : Option Halt → ℕ
count_after (Some h) = halt_step_count h
count_after None = 1

-- what a machine that had printed so much before a run has printed last after it
abbrev pub last_or : List ℕ → Option (List ℕ) → List ℕ
last_or printed None = printed
last_or printed (Some last) = last

-- a run of so many steps that print nothing, and why it ended
abbrev pub silent_run : MachineState → ℕ → Stop → Run
silent_run now zero x = resting now x
silent_run now (suc n) x = record { now = now; printed = []; last = Some []; taken = suc n; stop = x }

-- what such a run printed last
abbrev pub silent_last : ℕ → Option (List ℕ)
silent_last zero = None
silent_last (suc n) = Some []

-- why it ended: where another turn comes next that was no break, and so only for the steps that
-- were asked for
abbrev pub silent_stop : Result StepEnd Stop → Stop
silent_stop (Ok next) = stop.Budget
silent_stop (Err x) = x
