-- How a call goes back to its caller, and what an error is to a caller that takes none (RISC OS 3
-- Programmer's Reference Manual, "An introduction to SWIs" and "Generating and handling errors";
-- that nothing is done then is this project's own).
use Rattle.std.specs.Prelude.{ℕ, Bool, true, false, Some}
use Rattle.profile.specs.Fault.TheVariants.{ErrorStop}
use Rattle.arm_run.specs.Psr.{Psr}
use Rattle.swi_dispatch_guest.specs.declared.halt.Halt.{Halt}
use Rattle.swi_dispatch_guest.specs.declared.halt.Halt.TheVariants as halt
use Rattle.swi_dispatch_plans.specs.Refusal.{Refusal}
use Rattle.swi_dispatch_plans.specs.Returns.{state_after_return}
use Rattle.swi_dispatch_guest.specs.MachineState.{MachineState, StepOutcome, silent}
use Rattle.swi_dispatch_guest.specs.Errors.{error_number, with_error}

abbrev pub outcome_of_halt : MachineState → Halt → StepOutcome
outcome_of_halt s h = silent (record s { halt = Some h })

abbrev pub gone_back : Psr → MachineState → Bool → ℕ → MachineState
gone_back caller s overflow next = record s { cpu = state_after_return caller s.cpu overflow next }

-- what a call leaves that errs, where the error is answered to the guest
abbrev pub error_answered : Psr → StepOutcome → ℕ → Refusal → StepOutcome
error_answered caller o next e = record o { now = gone_back caller (with_error o.now e) true next }

-- With the X bit an error is answered. Without, the step is a fault: nothing of that is done, and
-- the fault has the number that R0 would point to.
abbrev pub outcome_of_error : MachineState → Bool → StepOutcome → StepOutcome
outcome_of_error s true answered = answered
outcome_of_error s false answered = outcome_of_halt s (halt.Fault (ErrorStop (error_number answered.now)))
