use Rattle.std.proofs.Common.{◌≡◌, ◌++◌}
use Rattle.address_map.specs.Memory.{bytes_of}
use Rattle.gdb_machine.specs.Watches.{bytes_seen}
use Rattle.gdb_machine.proofs.watches.push_seen.Given as goal

-- what stands, and the bytes that are left, is all
abbrev pub invariant-loop-left : goal.invariant-loop-left
invariant-loop-left l = record {
  all : l.seen.items ++ bytes_seen (bytes_of l.map) l.kind l.address l.left
      ≡ l.fn.seen.items ++ bytes_seen (bytes_of l.map) l.fn.kind l.fn.start l.fn.count;
}

abbrev pub decreases-loop-left : goal.decreases-loop-left
decreases-loop-left l = l.left
