-- Changes as they come in packets, and the packets that refuse them.
use Rattle.std.specs.Prelude.{ℕ, List, codes, Option, Some, None, Result, Ok, Err}
use Rattle.std.specs.Int.{from_le_bytes, w32}
use Rattle.hex.specs.declared.error.FromHexError.{FromHexError}
use Rattle.profile.specs.Fault.{Fault}
use Rattle.profile.specs.Fault.TheVariants as fault
use Rattle.arm_core.specs.declared.breaks.breaks.BreakError.{BreakError}
use Rattle.arm_core.specs.declared.breaks.breaks.BreakError.TheVariants as break
use Rattle.gdb_machine.specs.Changes.{register_write}
use Rattle.gdb_machine.specs.declared.changes.RegisterWrite.{RegisterWrite}
use Rattle.gdb_machine.specs.declared.watches.WatchError.{WatchError}
use Rattle.gdb_machine.specs.declared.watches.WatchError.TheVariants as watch

abbrev pub write_wanted : ℕ → Result (List ℕ) FromHexError → Option RegisterWrite
write_wanted n (Ok bytes) = register_write n (from_le_bytes w32 bytes)
write_wanted n (Err error) = None

-- the bytes of pairs of digits, if they are pairs of digits
abbrev pub bytes_of_pairs : Result (List ℕ) FromHexError → Option (List ℕ)
bytes_of_pairs (Ok bytes) = Some bytes
bytes_of_pairs (Err error) = None

abbrev pub break_refusal : BreakError → List ℕ
break_refusal break.BreakTableFull = codes "E1c"
break_refusal break.Unaligned = codes "E16"
break_refusal break.NoBreak = codes "E16"

abbrev pub watch_refusal : WatchError → List ℕ
watch_refusal watch.WatchTableFull = codes "E1c"
watch_refusal watch.BadLength = codes "E16"

abbrev pub store_refusal : Fault → List ℕ
store_refusal fault.OwnedWord = codes "E0d"
store_refusal _ = codes "E0e"
