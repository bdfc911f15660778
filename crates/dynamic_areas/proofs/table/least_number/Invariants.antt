use Rattle.std.proofs.Common.{◌≡◌, ◌≤◌, ◌+◌, drop}
use Rattle.dynamic_areas.specs.Creating.{least_number}
use Rattle.dynamic_areas.proofs.table.least_number.Given as goal

abbrev pub invariant-loop-area : goal.invariant-loop-area
invariant-loop-area l = record {
  least : least_number l.number (drop l.area-index l.areas) ≡ least_number 256 l.areas;
  small : l.number ≤ 256 + l.area-index;
}
