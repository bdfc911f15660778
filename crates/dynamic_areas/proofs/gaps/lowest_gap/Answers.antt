use Rattle.profile.specs.MemoryMap.{area_window_start}
use Rattle.std.proofs.Common.{◌≡◌, ◌+◌, ◌-◌, ◌*◌, true, sym, ◌∙◌, arith, rules}
use Rattle.dynamic_areas.specs.Rooms.{meets_area}
use Rattle.dynamic_areas.proofs.Tables.{gap_passed}
use Rattle.dynamic_areas.proofs.gaps.lowest_gap.Goals as goal
use Rattle.dynamic_areas.specs.Creating.{lowest_gap}

pub loop-page-preserved : goal.loop-page-preserved
loop-page-preserved c =
    let met : meets_area (area_window_start + 4096 * c.loop-page.page) c.args.maximum c.args.areas.now ≡ true =
    sym c.meets_area.ensures ∙ c.if-not-meets_area.false in
    let base : area_window_start + 4096 * (c.loop-page.page + 1) ≡ area_window_start + 4096 * c.loop-page.page + 4096 = omega arith in
    let left : c.gap_count-count.result - (c.loop-page.page + 1) ≡ c.gap_count-count.result - c.loop-page.page - 1 = omega arith in
    rw (base, left) (
    sym (gap_passed c.args.areas.now c.args.maximum (area_window_start + 4096 * c.loop-page.page) (c.gap_count-count.result - c.loop-page.page) met (omega arith))
    ∙ c.loop-page.invariant
    )

pub returns-then-not-meets_area : goal.returns-then-not-meets_area
unfolding lowest_gap
returns-then-not-meets_area c = search rules

pub returns : goal.returns
unfolding lowest_gap
returns c = search rules
