use Rattle.std.proofs.Common.{◌≡◌, Ok, subst, true}
use Rattle.swi_dispatch_plans.specs.NewImages.{may_be_in_place}
use Rattle.swi_dispatch_plans.specs.Beginning.{IsFree}
use Rattle.swi_dispatch_plans.specs.ImagePlans.{SparesRange, image_header_in}
use Rattle.swi_dispatch_plans.specs.PlannerInput.{PlannerInput}
use Rattle.swi_dispatch_guest.proofs.guest.Guest.start_insertion.Goals as goal

pub record_image-requires-clause-place : goal.record_image-requires-clause-place
record_image-requires-clause-place c =
    let range = c.in_ok-found.found.range in
    subst (λ (s : PlannerInput). may_be_in_place s.module_state.area_store.store range.at range.len ≡ true) c.planner.ensures
    c.in_ok-found.ensures.place

pub record_image-requires-clause-header : goal.record_image-requires-clause-header
record_image-requires-clause-header c =
    let found = c.in_ok-found.found in
    subst (λ (s : PlannerInput). image_header_in s found.range.at found.range.len ≡ Ok found.header)
    c.planner.ensures c.in_ok-found.ensures.header

pub record_image-requires-clause-free : goal.record_image-requires-clause-free
record_image-requires-clause-free c = subst IsFree c.planner.ensures c.in_ok-found.ensures.free

pub record_image-requires-clause-spared : goal.record_image-requires-clause-spared
record_image-requires-clause-spared c =
    let range = c.in_ok-found.found.range in
    subst (λ (s : PlannerInput). SparesRange s range.at range.len) c.planner.ensures
    c.in_ok-found.ensures.spared
