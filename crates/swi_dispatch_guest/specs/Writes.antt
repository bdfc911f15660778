-- What a user writes to a machine from outside: a program, a register, the program counter or the
-- status, or one word as a guest's store instruction would; or that it wakes it (this project's own).
use Rattle.std.specs.Prelude.{ℕ, None, Result, Ok, List}
use Rattle.profile.specs.MemoryMap.{application_start}
use Rattle.profile.specs.Outcome.{bind}
use Rattle.profile.specs.Fault.{Fault}
use Rattle.os_heap.specs.Bytes.{with_bytes, word_stored}
use Rattle.arm_run.specs.Mode.{Mode}
use Rattle.arm_run.specs.Psr.{Psr}
use Rattle.arm_run.specs.State.{with_psr, with_register, with_register_in}
use Rattle.os_heap.specs.Store.{owned_in}
use Rattle.swi_dispatch_guest.specs.MachineState.{MachineState, with_memory}

-- a program, at the start of the application space
abbrev pub with_program : MachineState → List ℕ → MachineState
with_program s program = record s {
  store = with_memory s.store
      (with_bytes s.store.bytes application_start program);
}

-- one of R0 to R14 of the present mode, or of a mode that is named
unfoldable pub machine_with_register : MachineState → ℕ → ℕ → MachineState
machine_with_register s n v = record s { cpu = with_register s.cpu n v }

abbrev pub machine_with_bank_register : MachineState → Mode → ℕ → ℕ → MachineState
machine_with_bank_register s mode n v = record s { cpu = with_register_in mode s.cpu n v }

abbrev pub machine_at : MachineState → ℕ → MachineState
machine_at s address = record s { cpu = record s.cpu { pc = address } }

-- whatever has halted it, it can take steps again
abbrev pub machine_unhalted : MachineState → MachineState
machine_unhalted s = record s { halt = None }

-- the flags, the interrupt bits and the mode
abbrev pub machine_with_status : MachineState → Psr → MachineState
machine_with_status s status = record s { cpu = with_psr s.cpu status }

unfoldable pub machine_after_poke : MachineState → ℕ → ℕ → Result MachineState Fault
machine_after_poke s at word = bind (word_stored (owned_in s.store) s.store.bytes at word)
    (λ b. Ok (record s { store = with_memory s.store b }))
