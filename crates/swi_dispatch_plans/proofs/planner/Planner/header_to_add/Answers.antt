use Rattle.std.proofs.Common.{subst, sym, ap, ◌∙◌}
use Rattle.profile.specs.images.module_header.Header.{header_of}
use Rattle.os_heap.specs.Store.{store_of}
use Rattle.swi_dispatch_plans.specs.Beginning.{SparesTitle, SparesTitled}
use Rattle.swi_dispatch_plans.specs.ImagePlans.{image_header_in}
use Rattle.swi_dispatch_plans.specs.PlannerInput.{PlanParts, setting_in}
use Rattle.swi_dispatch_plans.proofs.planner.Planner.header_to_add.Goals as goal

pub returns-clause-header : goal.returns-clause-header
unfolding store_of
returns-clause-header c =
    ap (λ (p : PlanParts). image_header_in (setting_in p) c.args.range.at c.args.range.len) (sym c.self.view_is)
    ∙ ap header_of (sym c.view.ensures) ∙ sym c.read_from.ensures ∙ c.in-Ok.is

pub returns-clause-spared : goal.returns-clause-spared
returns-clause-spared c =
    let s = setting_in c.args.self.now in
    subst (SparesTitle s) (sym (returns-clause-header c))
    (subst (SparesTitled s) c.as_slice.ensures.value c.in_ok-may_replace.ensures.spared)
