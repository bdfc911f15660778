use Rattle.std.proofs.Common.{◌≡◌, drop}
use Rattle.dynamic_areas.specs.Areas.{next_above}
use Rattle.dynamic_areas.proofs.table.next_above.Given as goal

abbrev pub invariant-loop-area : goal.invariant-loop-area
invariant-loop-area l = next_above l.number (drop l.area-index l.areas) ≡ next_above l.number l.areas
