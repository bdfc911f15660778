use Rattle.std.proofs.Common.{◌≡◌}
use Rattle.address_map.specs.Memory.{bytes_of, is_owned}
use Rattle.debug_tables.specs.byte_writes.Put.{words_fault}
use Rattle.debug_tables.proofs.byte_writes.put.words_fault.Given as goal

-- the words so far meet no fault
abbrev pub invariant-loop-left : goal.invariant-loop-left
invariant-loop-left l = record {
  rest : words_fault (is_owned l.map) (bytes_of l.map) l.fn.start l.fn.count
      ≡ words_fault (is_owned l.map) (bytes_of l.map) l.address l.left;
}

abbrev pub decreases-loop-left : goal.decreases-loop-left
decreases-loop-left l = l.left
