use Rattle.swi_dispatch_plans.proofs.StoreLemmas.AreasKept.{created_kept}
use Rattle.swi_dispatch_plans.proofs.StoreLemmas.Leaving.{leaves_memory}
use Rattle.swi_dispatch_plans.proofs.store.areas.create_area.Goals as goal

pub returns-in_default-clause-leaves : goal.returns-in_default-clause-leaves
returns-in_default-clause-leaves c = leaves_memory _ _ c.requires.state

pub returns-in_err-made-clause-leaves : goal.returns-in_err-made-clause-leaves
returns-in_err-made-clause-leaves c =
    let did = c.create.ensures in
    let kept = created_kept _ _ _ _ _ _ _ c.requires.state.area_store did.kept.area_store did.area_table did.store in
    record { area_store = did.kept.area_store; classes = did.kept.classes; others = kept.others; flex = kept.flex; sizes = did.kept.sizes }

pub returns-clause-leaves : goal.returns-clause-leaves
returns-clause-leaves c =
    let did = c.create.ensures in
    let kept = created_kept _ _ _ _ _ _ _ c.requires.state.area_store did.kept.area_store did.area_table did.store in
    record { area_store = did.kept.area_store; classes = did.kept.classes; others = kept.others; flex = kept.flex; sizes = did.kept.sizes }
