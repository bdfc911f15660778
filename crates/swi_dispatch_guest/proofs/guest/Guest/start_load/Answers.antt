use Rattle.std.proofs.Common.{subst}
use Rattle.profile.specs.images.module_header.Header.{header_of}
use Rattle.swi_dispatch_plans.specs.Beginning.{IsFree, SparesTitle}
use Rattle.swi_dispatch_plans.specs.PlannerInput.{PlannerInput}
use Rattle.swi_dispatch_guest.proofs.guest.Guest.start_load.Goals as goal

pub place_image-requires-clause-free : goal.place_image-requires-clause-free
place_image-requires-clause-free c = subst IsFree c.planner.ensures c.in_ok-load.ensures.free

pub place_image-requires-clause-spared : goal.place_image-requires-clause-spared
place_image-requires-clause-spared c =
    subst (λ (s : PlannerInput). SparesTitle s (header_of c.in_ok-load.load.image.now)) c.planner.ensures
    c.in_ok-load.ensures.spared
