use Rattle.std.proofs.Common.{◌≡◌, false, take}
use Rattle.dynamic_areas.specs.Rooms.{meets_area}
use Rattle.dynamic_areas.proofs.gaps.meets_area.Given as goal

abbrev pub invariant-loop-area : goal.invariant-loop-area
invariant-loop-area l = meets_area l.base l.maximum (take l.area-index l.areas) ≡ false
