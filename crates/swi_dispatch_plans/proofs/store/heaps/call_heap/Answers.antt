use Rattle.instances.proofs.Heaps.{got_keeps}
use Rattle.swi_dispatch_plans.proofs.StoreLemmas.Leaving.{leaves_all, leaves_begun, leaves_changed, leaves_freed, leaves_resized, leaves_written}
use Rattle.swi_dispatch_plans.proofs.store.heaps.call_heap.Goals as goal

pub returns-in-Some-Initialise-clause-leaves : goal.returns-in-Some-Initialise-clause-leaves
returns-in-Some-Initialise-clause-leaves c =
    let did = c.init.ensures in
    leaves_begun _ _ _ _ _ c.requires.state.sound did.kept did.store

pub returns-in-Some-Describe-clause-leaves : goal.returns-in-Some-Describe-clause-leaves
returns-in-Some-Describe-clause-leaves c = leaves_all _ c.requires.state.classes

pub returns-in-Some-Get-clause-leaves : goal.returns-in-Some-Get-clause-leaves
returns-in-Some-Get-clause-leaves c =
    let did = c.get.ensures in
    leaves_written _ _ did.kept (got_keeps _ _ _ _ _ c.requires.state.sound did.kept.sound did.store)

pub returns-in-Some-Free-clause-leaves : goal.returns-in-Some-Free-clause-leaves
returns-in-Some-Free-clause-leaves c =
    let did = c.free.ensures in
    leaves_freed _ _ _ _ _ c.requires.state.sound did.kept did.store

pub returns-in-Some-Resize-clause-leaves : goal.returns-in-Some-Resize-clause-leaves
returns-in-Some-Resize-clause-leaves c =
    let did = c.resize.ensures in
    leaves_resized _ _ _ _ _ _ c.requires.state.sound did.kept did.store

pub returns-in-Some-ChangeSize-clause-leaves : goal.returns-in-Some-ChangeSize-clause-leaves
returns-in-Some-ChangeSize-clause-leaves c =
    let did = c.change_size.ensures in
    leaves_changed _ _ _ _ _ c.requires.state.sound did.kept did.store

pub returns-in-Some-BlockSize-clause-leaves : goal.returns-in-Some-BlockSize-clause-leaves
returns-in-Some-BlockSize-clause-leaves c = leaves_all _ c.requires.state.classes

pub returns-in-None-clause-leaves : goal.returns-in-None-clause-leaves
returns-in-None-clause-leaves c = leaves_all _ c.requires.state.classes
