-- Errors that guests see: R0 points to an error's block (RISC OS 3 Programmer's Reference Manual,
-- "Generating and handling errors").
use Rattle.profile.specs.MemoryMap.{error_block_start}
use Rattle.std.specs.Prelude.{ℕ}
use Rattle.profile.specs.ErrorNames.{error_code, error_name}
use Rattle.arm_run.specs.State.{register_of, with_register}
use Rattle.swi_dispatch_plans.specs.Refusal.{Refusal}
use Rattle.swi_dispatch_plans.specs.Refusal.TheVariants as refusal
use Rattle.swi_dispatch_plans.specs.Errors.{error_at, memory_with_error}
use Rattle.swi_dispatch_guest.specs.MachineState.{MachineState, with_memory}

abbrev pub error_number : MachineState → ℕ
error_number s = error_at s.store.bytes (register_of s.cpu 0)

-- An error of the system goes to its block, and R0 points there. The guest's own stands where R0
-- points already.
abbrev pub with_error : MachineState → Refusal → MachineState
with_error s (refusal.System e) = record s {
  cpu = with_register s.cpu 0 error_block_start;
  store = with_memory s.store (memory_with_error s.store.bytes (error_code e) (error_name e));
}
with_error s refusal.Own = s
