use Rattle.swi_dispatch_plans.proofs.StoreLemmas.AreasKept.{removed_kept}
use Rattle.swi_dispatch_plans.proofs.StoreLemmas.Leaving.{leaves_memory, leaves_table}
use Rattle.swi_dispatch_plans.proofs.store.areas.call_area.Goals as goal

pub returns-in_err-remove-in-Some-Remove-clause-leaves : goal.returns-in_err-remove-in-Some-Remove-clause-leaves
returns-in_err-remove-in-Some-Remove-clause-leaves c =
    let did = c.remove.ensures in
    let kept = removed_kept _ _ _ _ _ _ c.requires.state.area_store did.kept.area_store did.area_table did.store in
    record { area_store = did.kept.area_store; classes = did.kept.classes; others = kept.others; flex = kept.flex; sizes = did.kept.sizes }

pub returns-in_ok-remove-in-Some-Remove-clause-leaves : goal.returns-in_ok-remove-in-Some-Remove-clause-leaves
returns-in_ok-remove-in-Some-Remove-clause-leaves c =
    let did = c.remove.ensures in
    let kept = removed_kept _ _ _ _ _ _ c.requires.state.area_store did.kept.area_store did.area_table did.store in
    record { area_store = did.kept.area_store; classes = did.kept.classes; others = kept.others; flex = kept.flex; sizes = did.kept.sizes }

pub returns-in-Some-Info-clause-leaves : goal.returns-in-Some-Info-clause-leaves
returns-in-Some-Info-clause-leaves c = leaves_memory _ _ c.requires.state

pub returns-in-Some-Enumerate-clause-leaves : goal.returns-in-Some-Enumerate-clause-leaves
returns-in-Some-Enumerate-clause-leaves c = leaves_memory _ _ c.requires.state

pub returns-in_err-renumber-in-Some-Renumber-clause-leaves : goal.returns-in_err-renumber-in-Some-Renumber-clause-leaves
returns-in_err-renumber-in-Some-Renumber-clause-leaves c = leaves_table _ _ _ c.requires.state c.renumber.ensures.kept

pub returns-in_ok-renumber-in-Some-Renumber-clause-leaves : goal.returns-in_ok-renumber-in-Some-Renumber-clause-leaves
returns-in_ok-renumber-in-Some-Renumber-clause-leaves c = leaves_table _ _ _ c.requires.state c.renumber.ensures.kept

pub returns-in-None-clause-leaves : goal.returns-in-None-clause-leaves
returns-in-None-clause-leaves c = leaves_memory _ _ c.requires.state
