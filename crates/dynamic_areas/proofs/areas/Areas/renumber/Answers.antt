use Rattle.std.proofs.Common.{refl, subst}
use Rattle.dynamic_areas.specs.Areas.{AreaTable}
use Rattle.dynamic_areas.specs.Kept.{KeepsAreaTable}
use Rattle.dynamic_areas.proofs.RenumberLemmas.{areas_renumbered}
use Rattle.dynamic_areas.proofs.areas.Areas.renumber.Goals as goal

pub returns-clause-kept : goal.returns-clause-kept
returns-clause-kept c =
    let old : AreaTable = record { sizes = c.self.inside.sizes; areas = c.self.inside.list.items } in
    let new : AreaTable = record { sizes = c.self.inside.sizes; areas = c.renumber.new.areas.items } in
    let kept : KeepsAreaTable old new = record {
      sizes = refl;
      table = c.renumber.ensures.table;
      ground = areas_renumbered old new c.args.old c.args.new c.renumber.result c.renumber.ensures.areas refl c.renumber.ensures.table;
    } in
    subst (λ (l : AreaTable). KeepsAreaTable l new) c.self.view_is kept
