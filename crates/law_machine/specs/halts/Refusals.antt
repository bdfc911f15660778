-- What a store call that is refused leaves (RISC OS 3 Programmer's Reference Manual, "Generating
-- and handling errors"; the place of an error's block, and that R14 of supervisor mode is set, are
-- this project's own).
use Rattle.profile.specs.MemoryMap.{error_block_start}
use Rattle.std.specs.Prelude.{ℕ, ◌≡◌, ◌≢◌, ◌<◌, ◌+◌, ◌%◌, ◌^◌, Bool, true, false, Option, Some, None, Err, List, length, slice_index}
use Rattle.profile.specs.SwiNames.{swi_of}
use Rattle.profile.specs.Reasons.{module_reason}
use Rattle.profile.specs.declared.reason.ModuleReason.{ModuleReason}
use Rattle.profile.specs.declared.reason.ModuleReason.TheVariants as reason
use Rattle.profile.specs.declared.swi.SwiName.{SwiName}
use Rattle.profile.specs.declared.swi.SwiName.TheVariants as swi
use Rattle.address_map.specs.Bytes.{in_range}
use Rattle.arm_core.specs.declared.psr.Mode.TheVariants.{Supervisor}
use Rattle.arm_core.specs.declared.turn.StepEnd.TheVariants as turn
use Rattle.arm_core.specs.State.{register_in, register_of}
use Rattle.profile.specs.images.Entries.{Entry}
use Rattle.swi_dispatch_guest.specs.SwiDispatchAnswersReturns.{return_word}
use Rattle.swi_dispatch_guest.specs.MachineState.{MachineState}
use Rattle.swi_dispatch_guest.specs.Step.{outcome_of_call, result_of_instruction, machine_step, store_called, without_x}

-- All is as it was but for the block of an error, R0, R14 of supervisor mode, V and the program counter: of the core's
-- 26 registers R0 is the first, and R14 of supervisor mode the last. That has the return address with the caller's
-- status, and the guest goes on there, at `next`.
pub record IsRefusal (s : MachineState) (next : ℕ) (t : MachineState) : Type 0 where
  pub bytes : (a : ℕ) → in_range error_block_start 0x100 a ≡ false → t.store.bytes.at a ≡ s.store.bytes.at a
  pub mapped : t.store.bytes.mapped ≡ s.store.bytes.mapped
  pub heaps : t.store.heaps ≡ s.store.heaps
  pub others : t.store.others ≡ s.store.others
  pub anchor : t.store.anchor ≡ s.store.anchor
  pub header : t.store.header ≡ s.store.header
  pub pool : t.pool ≡ s.pool
  pub tables : t.tables ≡ s.tables
  pub halt : t.halt ≡ s.halt
  pub registers : (k : ℕ) → k ≢ 0 → k ≢ 25 → slice_index t.cpu.file k ≡ slice_index s.cpu.file k
  pub status : t.cpu.psr ≡ record s.cpu.psr { overflow = true }
  pub link : length s.cpu.file ≡ 26 → register_in Supervisor t.cpu 14 ≡ return_word s.cpu.psr next
  pub counter : next % 4 ≡ 0 → next < 2 ^ 26 → t.cpu.pc ≡ next

-- the calls that may have done something before the error that they end with: OS_ChangeDynamicArea,
-- and the reasons of OS_Module in which module code may run
abbrev pub may_run_code : Option ModuleReason → Bool
may_run_code (Some reason.Run) = true
may_run_code (Some reason.Load) = true
may_run_code (Some reason.Reinit) = true
may_run_code (Some reason.Delete) = true
may_run_code (Some reason.Tidy) = true
may_run_code (Some reason.Clear) = true
may_run_code (Some reason.Insert) = true
may_run_code (Some reason.InsertCopy) = true
may_run_code (Some reason.Instantiate) = true
may_run_code other = false

abbrev pub may_err_late : Option SwiName → Option ModuleReason → Bool
may_err_late (Some swi.ChangeDynamicArea) why = true
may_err_late (Some swi.Module) why = may_run_code why
may_err_late other why = false

-- Each other call with the X bit: it is refused just where V is set after it.
abbrev pub RefusalsChangeNothing : Type 0
RefusalsChangeNothing =
    (images : List Entry) (s : MachineState) (next number : ℕ)
    → may_err_late (swi_of number) (module_reason (register_of s.cpu 0)) ≡ false
    → swi_of number ≢ Some swi.Exit
    → (outcome_of_call images s true next number).now.cpu.psr.overflow ≡ true
    → IsRefusal s next (outcome_of_call images s true next number).now

-- Without the X bit such a call that goes on was not refused.
abbrev pub GoingOnIsDone : Type 0
GoingOnIsDone =
    (images : List Entry) (s : MachineState) (next number : ℕ)
    → may_err_late (swi_of number) (module_reason (register_of s.cpu 0)) ≡ false
    → (outcome_of_call images s false next number).now.halt ≡ None →
    (outcome_of_call images s false next number).now.cpu.psr.overflow ≡ false

-- So it is with a step that makes such a call, with X or without, and with a call that a user makes from outside: where
-- the machine goes on with V set, the call was refused.
abbrev pub RefusedStepsChangeNothing : Type 0
RefusedStepsChangeNothing =
    (images : List Entry) (s : MachineState) (n : ℕ) → s.halt ≡ None →
    result_of_instruction s ≡ Err (turn.Swi n)
    → may_err_late (swi_of (without_x n)) (module_reason (register_of s.cpu 0)) ≡ false
    → (machine_step images s).now.halt ≡ None → (machine_step images s).now.cpu.psr.overflow ≡ true
    → IsRefusal s ((s.cpu.pc + 4) % 2 ^ 26) (machine_step images s).now

abbrev pub RefusedStoreCallsChangeNothing : Type 0
RefusedStoreCallsChangeNothing =
    (images : List Entry) (s : MachineState) (number : ℕ) → s.halt ≡ None
    → may_err_late (swi_of (without_x (number % 2 ^ 24))) (module_reason (register_of s.cpu 0)) ≡ false
    → (store_called images s number).now.halt ≡ None → (store_called images s number).now.cpu.psr.overflow
    ≡ true
    → IsRefusal s s.cpu.pc (store_called images s number).now
