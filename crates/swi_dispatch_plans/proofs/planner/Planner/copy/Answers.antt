use Rattle.std.proofs.Common.{◌≡◌, true, sym, ap, ◌∙◌}
use Rattle.instances.specs.Ground.{area_store_of}
use Rattle.instances.specs.Copies.{may_be_copied}
use Rattle.instances.proofs.AddingLemmas.{copied_mapped}
use Rattle.swi_dispatch_plans.specs.PlannerInput.{PlanParts}
use Rattle.swi_dispatch_plans.proofs.planner.Planner.copy.Goals as goal

pub header_to_add-requires : goal.header_to_add-requires
header_to_add-requires c =
    let range = c.range_asked-range.result in
    let may : may_be_copied (area_store_of c.args.self.now.map c.args.self.now.area_table) range.at range.len ≡ true =
    ap (λ (p : PlanParts). may_be_copied (area_store_of p.map p.area_table) range.at range.len) (sym c.self.view_is)
    ∙ sym c.may_be_copied.ensures ∙ c.if-not-may_be_copied.false in
    copied_mapped (area_store_of c.args.self.now.map c.args.self.now.area_table) range.at range.len may

pub returns-clause-place : goal.returns-clause-place
returns-clause-place c =
    let range = c.range_asked-range.result in
    ap (λ (p : PlanParts). may_be_copied (area_store_of p.map p.area_table) range.at range.len) (sym c.self.view_is)
    ∙ sym c.may_be_copied.ensures ∙ c.if-not-may_be_copied.false
