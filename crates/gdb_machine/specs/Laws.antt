-- A register that was written is read with the value that it was given.
use Rattle.std.specs.Prelude.{◌≡◌, ℕ, Some}
use Rattle.arm_core.specs.State.{IsCore, State}
use Rattle.gdb_machine.specs.Changes.{core_with_change, register_write}
use Rattle.gdb_machine.specs.Registers.{register_shown}
use Rattle.gdb_machine.specs.declared.changes.RegisterWrite.{RegisterWrite}

abbrev pub RegisterWritesAreRead : Type 0
RegisterWritesAreRead = (s : State) (n value : ℕ) (c : RegisterWrite) → IsCore s
    → register_write n value ≡ Some c → register_shown (core_with_change s c) n ≡ Some value
