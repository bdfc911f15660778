use Rattle.std.proofs.Common.{◌≡◌}
use Rattle.trace_effects.specs.changes.Registers.{changes_below}
use Rattle.trace_effects.proofs.changes.registers.next_of_all.Given as goal

-- so far nothing differs
abbrev pub invariant-loop-place : goal.invariant-loop-place
invariant-loop-place l = changes_below l.before.file l.after.file l.place ≡ changes_below l.before.file l.after.file l.fn.from
