use Rattle.std.proofs.Common.{◌≡◌, true, sym, ap, ◌∙◌}
use Rattle.os_heap.specs.Store.{store_of}
use Rattle.instances.specs.NewImages.{may_be_in_place}
use Rattle.instances.proofs.InPlaceLemmas.{may_be}
use Rattle.swi_dispatch_plans.specs.PlannerInput.{PlanParts}
use Rattle.swi_dispatch_plans.proofs.planner.Planner.insertion.Goals as goal

pub header_to_add-requires : goal.header_to_add-requires
header_to_add-requires c =
    let range = c.range_asked-range.result in
    let may : may_be_in_place (store_of c.args.self.now.map) range.at range.len ≡ true =
    ap (λ (p : PlanParts). may_be_in_place (store_of p.map) range.at range.len) (sym c.self.view_is)
    ∙ sym c.may_be_in_place.ensures ∙ c.if-not-may_be_in_place.false in
    (may_be (store_of c.args.self.now.map) range.at range.len may).mapped

pub returns-clause-place : goal.returns-clause-place
returns-clause-place c =
    let range = c.range_asked-range.result in
    ap (λ (p : PlanParts). may_be_in_place (store_of p.map) range.at range.len) (sym c.self.view_is)
    ∙ sym c.may_be_in_place.ensures ∙ c.if-not-may_be_in_place.false
