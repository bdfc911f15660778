use Rattle.std.proofs.Common.{◌≡◌, ◌++◌}
use Rattle.address_map.specs.Memory.{bytes_of}
use Rattle.gdb_machine.specs.Memory.{known_bytes}
use Rattle.gdb_machine.proofs.memory.known_bytes.Given as goal

-- what stands, and the known bytes that are left, is all
abbrev pub invariant-loop-left : goal.invariant-loop-left
invariant-loop-left l = record {
  text : l.bytes.items ++ known_bytes (bytes_of l.map) l.address l.left ≡ known_bytes (bytes_of l.fn.map) l.fn.start l.fn.count;
}

abbrev pub decreases-loop-left : goal.decreases-loop-left
decreases-loop-left l = l.left
