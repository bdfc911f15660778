use Rattle.std.proofs.Common.{◌≡◌, length, map, take}
use Rattle.trace_moments.specs.Areas.{shown_area}
use Rattle.trace_moments.proofs.areas.copied_areas.Given as goal

abbrev pub invariant-loop-area : goal.invariant-loop-area
invariant-loop-area l = record {
  copied : l.copies.items ≡ map shown_area (take l.area-index l.areas);
  count : length l.copies.items ≡ l.area-index;
}
