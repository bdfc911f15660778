use Rattle.std.proofs.Common.{◌≡◌, ◌-◌}
use Rattle.assembler_reading.specs.RegisterLists.{more_registers}
use Rattle.assembler_reading.proofs.register_lists.more_registers.Given as goal

-- the ranges that are left, after the registers so far
abbrev pub invariant-loop-ranges : goal.invariant-loop-ranges
invariant-loop-ranges l = more_registers (l.count - l._ranges) l.list l.rest ≡ more_registers l.count 0 l.text
