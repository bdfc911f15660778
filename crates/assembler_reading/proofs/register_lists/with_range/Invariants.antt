use Rattle.std.proofs.Common.{◌≡◌, ◌+◌}
use Rattle.assembler_reading.specs.RegisterLists.{with_range}
use Rattle.assembler_reading.proofs.Ranges.{with_rest}
use Rattle.assembler_reading.proofs.register_lists.with_range.Given as goal

-- the registers that are left, after those so far
abbrev pub invariant-loop-number : goal.invariant-loop-number
invariant-loop-number l = with_rest l.all l.number (l.fn.last + 1) ≡ with_range l.fn.list l.fn.first l.fn.last
