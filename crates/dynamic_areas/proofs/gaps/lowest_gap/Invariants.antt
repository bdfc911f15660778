use Rattle.profile.specs.MemoryMap.{area_window_start}
use Rattle.std.proofs.Common.{◌≡◌, ◌+◌, ◌-◌, ◌*◌}
use Rattle.dynamic_areas.specs.Creating.{lowest_from}
use Rattle.dynamic_areas.proofs.gaps.lowest_gap.Given as goal

abbrev pub invariant-loop-page : goal.invariant-loop-page
invariant-loop-page l =
    lowest_from l.areas l.maximum (area_window_start + 4096 * l.page) (l.count - l.page) ≡ lowest_from l.areas l.maximum area_window_start l.count
