use Rattle.std.proofs.Common.{◌≡◌, ◌≤◌, ◌+◌, ◌++◌}
use Rattle.gdb_machine.specs.Registers.{registers_text}
use Rattle.gdb_machine.proofs.registers.all_registers.Given as goal

-- what stands, and the registers that are left, is all
abbrev pub invariant-loop-left : goal.invariant-loop-left
invariant-loop-left l = record {
  text : l.text.items ++ registers_text l.cpu l.number l.left ≡ registers_text l.cpu 0 36;
  count : l.number + l.left ≤ 36;
}

abbrev pub decreases-loop-left : goal.decreases-loop-left
decreases-loop-left l = l.left
