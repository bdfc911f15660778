use Rattle.std.proofs.Common.{◌≡◌, ◌*◌, List, false, is_some, sym, ap, subst, ◌∙◌, refl}
use Rattle.address_map.specs.Memory.{is_mapped}
use Rattle.address_map.specs.declared.map.AddressMap.{AddressMap}
use Rattle.swi_dispatch_guest.specs.DynamicAreasAreas.{AreaTable}
use Rattle.swi_dispatch_guest.specs.Area.{Area}
use Rattle.store_copies.specs.Pages.{IsNoStartBetween}
use Rattle.store_copies.proofs.PageLemmas.{passed}
use Rattle.store_copies.proofs.pages.past_unmapped.Goals as goal

pub returns-clause-unmapped : goal.returns-clause-unmapped
returns-clause-unmapped c =
    let at = 4096 * c.args.page in
    let out : is_mapped c.args.machine.now.guest.map (4096 * c.args.page) ≡ false =
    ap (λ (m : AddressMap). is_mapped m (4096 * c.args.page)) (sym c.memory.ensures.map)
    ∙ (ap is_some (sym c.translate.ensures) ∙ (sym c.is_some.ensures ∙ c.if-is_some.false)) in
    let none : IsNoStartBetween c.args.machine.now.guest.tables.area_table.areas (4096 * c.args.page) c.next_start.result =
    subst (λ (areas : List Area). IsNoStartBetween areas (4096 * c.args.page) c.next_start.result)
    (c.list.ensures.value ∙ ap (λ (l : AreaTable). l.areas) c.areas.ensures.area_table) c.next_start.ensures.none in
    passed c.args.machine.now c.args.page c.next_start.result _ c.known.ensures out none refl
