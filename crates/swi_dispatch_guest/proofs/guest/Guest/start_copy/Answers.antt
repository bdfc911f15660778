use Rattle.std.proofs.Common.{◌≡◌, Ok, subst, true}
use Rattle.swi_dispatch_plans.specs.Copies.{may_be_copied}
use Rattle.swi_dispatch_plans.specs.Beginning.{IsFree}
use Rattle.swi_dispatch_plans.specs.ImagePlans.{SparesRange, image_header_in}
use Rattle.swi_dispatch_plans.specs.PlannerInput.{PlannerInput}
use Rattle.swi_dispatch_guest.proofs.guest.Guest.start_copy.Goals as goal

pub place_copy-requires-clause-place : goal.place_copy-requires-clause-place
place_copy-requires-clause-place c =
    let range = c.in_ok-found.found.range in
    subst (λ (s : PlannerInput). may_be_copied s.module_state.area_store range.at range.len ≡ true) c.planner.ensures
    c.in_ok-found.ensures.place

pub place_copy-requires-clause-header : goal.place_copy-requires-clause-header
place_copy-requires-clause-header c =
    let found = c.in_ok-found.found in
    subst (λ (s : PlannerInput). image_header_in s found.range.at found.range.len ≡ Ok found.header)
    c.planner.ensures c.in_ok-found.ensures.header

pub place_copy-requires-clause-free : goal.place_copy-requires-clause-free
place_copy-requires-clause-free c = subst IsFree c.planner.ensures c.in_ok-found.ensures.free

pub place_copy-requires-clause-spared : goal.place_copy-requires-clause-spared
place_copy-requires-clause-spared c =
    let range = c.in_ok-found.found.range in
    subst (λ (s : PlannerInput). SparesRange s range.at range.len) c.planner.ensures
    c.in_ok-found.ensures.spared
