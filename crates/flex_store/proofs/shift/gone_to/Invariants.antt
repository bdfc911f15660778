use Rattle.std.proofs.Common.{◌≡◌, drop}
use Rattle.flex_store.specs.Shifts.{AreShort, gone_to}
use Rattle.flex_store.proofs.shift.gone_to.Given as goal

abbrev pub invariant-loop-shift : goal.invariant-loop-shift
invariant-loop-shift l = (gone_to (drop l.shift-index l.shifts) l.at ≡ gone_to l.shifts l.at) × AreShort (drop l.shift-index l.shifts)
