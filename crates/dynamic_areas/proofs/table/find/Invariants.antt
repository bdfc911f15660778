use Rattle.std.proofs.Common.{◌≡◌, drop}
use Rattle.dynamic_areas.specs.Areas.{find_area}
use Rattle.dynamic_areas.proofs.table.find.Given as goal

abbrev pub invariant-loop-area : goal.invariant-loop-area
invariant-loop-area l = find_area l.number (drop l.area-index l.areas) ≡ find_area l.number l.areas
