use Rattle.std.proofs.Common.{◌≡◌, true, false, sym, ◌∙◌}
use Rattle.std.specs.Prelude.{is_some}
use Rattle.dynamic_areas.specs.Areas.{find_area, is_created}
use Rattle.dynamic_areas.proofs.RoomLemmas.{table_renumbered}
use Rattle.dynamic_areas.proofs.table.renumber.Goals as goal

pub returns-in-Some-clause-table : goal.returns-in-Some-clause-table
returns-in-Some-clause-table c =
    let good : is_created c.args.new ≡ true = sym c.is_created.ensures ∙ c.if-not-is_created.false in
    let free : is_some (find_area c.args.new c.args.areas.now.items) ≡ false = rw (← c.as_slice-2.ensures.value) (sym c.has_area-2.ensures ∙ c.if-has_area.false) in
    rw (c.put_area.ensures, c.take_area.ensures.rest)
    (table_renumbered c.args.areas.now.items c.args.old c.args.new c.in-Some.area c.requires c.in-Some.ensures.taken
    c.if-old-eq-MODULE_AREA.false good free)
