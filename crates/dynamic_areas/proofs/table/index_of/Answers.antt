use Rattle.std.proofs.Common.{ap, sym, ◌∙◌}
use Rattle.dynamic_areas.specs.declared.area.Area.{Area}
use Rattle.dynamic_areas.proofs.Tables.{searched_found}
use Rattle.dynamic_areas.proofs.table.index_of.Goals as goal

pub returns-then-area-number : goal.returns-then-area-number
returns-then-area-number c =
    searched_found _ _ _ c.index-areas-index.result c.loop-index-test.true
    (ap (λ (x : Area). x.number) (sym c.index-areas-index.is) ∙ c.if-area-number.true) c.loop-index.invariant
