use Rattle.std.proofs.Common.{◌≡◌, drop}
use Rattle.address_map.specs.Memory.{bytes_of}
use Rattle.gdb_machine.specs.Watches.{first_changed}
use Rattle.gdb_machine.proofs.watches.first_changed.Given as goal

-- the bytes so far are as they were seen
abbrev pub invariant-loop-byte : goal.invariant-loop-byte
invariant-loop-byte l =
    first_changed (bytes_of l.map) l.seen ≡ first_changed (bytes_of l.map) (drop l.byte-index l.seen)
