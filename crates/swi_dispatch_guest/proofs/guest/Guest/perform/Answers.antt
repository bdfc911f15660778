use Rattle.std.proofs.Common.{◌≡◌, Some, refl, rules, ◌∙◌}
use Rattle.profile.specs.declared.swi.SwiName.TheVariants as swi
use Rattle.swi_dispatch_guest.specs.MachineState.{MachineState}
use Rattle.swi_dispatch_guest.proofs.Answering.{went_unmoved}
use Rattle.swi_dispatch_guest.proofs.AreaAnswers.{change_answers}
use Rattle.swi_dispatch_guest.proofs.CallAnswers.{area_answers, heap_answers, module_answers, read_answers}
use Rattle.swi_dispatch_guest.proofs.Kept.{over}
use Rattle.swi_dispatch_guest.proofs.StoreCalls.{area_store_left, module_state_left, same_pages, store_left, well_after, well_left}
use Rattle.swi_dispatch_guest.proofs.guest.Guest.perform.Goals as goal

-- OS_Heap
pub call_heap-requires : goal.call_heap-requires
call_heap-requires c =
    record { state = record { sound = c.self-in-Some-Heap.invariant.areas.ground.sound; classes = c.self-in-Some-Heap.invariant.classes } }

pub invariant_of-self : goal.invariant_of-self
invariant_of-self c = well_left _ _ c.self-in-Some-Heap.invariant (c.call_heap.ensures.leaves _ c.self-in-Some-Heap.invariant.areas) refl c.self-in-Some-Heap.invariant.sized

pub returns-in-Some-Heap-clause-done : goal.returns-in-Some-Heap-clause-done
returns-in-Some-Heap-clause-done c =
    let is : c.args.name ≡ Some swi.Heap = search rules in
    let leaves = c.call_heap.ensures.leaves _ c.self-in-Some-Heap.invariant.areas in
    let left = store_left _ _ _ _ (record { area_table = c.self-in-Some-Heap.inside.areas; modules = c.self-in-Some-Heap.inside.instances; frames = c.self-in-Some-Heap.inside.frames; plan = c.self-in-Some-Heap.inside.plan; flex = c.self-in-Some-Heap.inside.flex }) c.self-in-Some-Heap.inside.halt _ _
    (same_pages _ _ _ c.self-in-Some-Heap.invariant.areas leaves.area_store) c.call_heap.ensures.state in
    rw (← c.self-in-Some-Heap.view_is) (heap_answers _ _ _ _ _ _ _ is c.requires.unprinted left)

pub returns-in-Some-Heap-clause-unmoved : goal.returns-in-Some-Heap-clause-unmoved
returns-in-Some-Heap-clause-unmoved c =
    let leaves = c.call_heap.ensures.leaves _ c.self-in-Some-Heap.invariant.areas in
    let left = store_left _ _ _ _ (record { area_table = c.self-in-Some-Heap.inside.areas; modules = c.self-in-Some-Heap.inside.instances; frames = c.self-in-Some-Heap.inside.frames; plan = c.self-in-Some-Heap.inside.plan; flex = c.self-in-Some-Heap.inside.flex }) c.self-in-Some-Heap.inside.halt _ _
    (same_pages _ _ _ c.self-in-Some-Heap.invariant.areas leaves.area_store) c.call_heap.ensures.state in
    rw (← c.self-in-Some-Heap.view_is) (went_unmoved _ _ _ _ _ left)

-- OS_Module
pub invariant_of-self-in-Some-Module : goal.invariant_of-self-in-Some-Module
invariant_of-self-in-Some-Module c = well_after _ _ c.self-in-Some-Module.invariant c.call_module.ensures.leaves refl (c.call_module.ensures.leaves.memory.sizes ∙ c.self-in-Some-Module.invariant.sized)

pub returns-in-Some-Module-clause-done : goal.returns-in-Some-Module-clause-done
returns-in-Some-Module-clause-done c =
    let is : c.args.name ≡ Some swi.Module = search rules in
    let s : MachineState = over c.self-in-Some-Module.inside.memory c.self-in-Some-Module.inside.cpu (record { area_table = c.self-in-Some-Module.inside.areas; modules = c.self-in-Some-Module.inside.instances; frames = c.self-in-Some-Module.inside.frames; plan = c.self-in-Some-Module.inside.plan; flex = c.self-in-Some-Module.inside.flex }) c.self-in-Some-Module.inside.halt in
    let left = module_state_left s _ _ _ _ c.call_module.ensures.state in
    rw (← c.self-in-Some-Module.view_is) (module_answers _ _ _ _ _ _ _ is c.requires.unprinted left)

pub returns-in-Some-Module-clause-unmoved : goal.returns-in-Some-Module-clause-unmoved
returns-in-Some-Module-clause-unmoved c =
    let s : MachineState = over c.self-in-Some-Module.inside.memory c.self-in-Some-Module.inside.cpu (record { area_table = c.self-in-Some-Module.inside.areas; modules = c.self-in-Some-Module.inside.instances; frames = c.self-in-Some-Module.inside.frames; plan = c.self-in-Some-Module.inside.plan; flex = c.self-in-Some-Module.inside.flex }) c.self-in-Some-Module.inside.halt in
    let left = module_state_left s _ _ _ _ c.call_module.ensures.state in
    rw (← c.self-in-Some-Module.view_is) (went_unmoved _ _ _ _ _ left)

pub returns-in-Some-ChangeDynamicArea-clause-done : goal.returns-in-Some-ChangeDynamicArea-clause-done
returns-in-Some-ChangeDynamicArea-clause-done c =
    let is : c.args.name ≡ Some swi.ChangeDynamicArea = search rules in
    change_answers _ _ _ _ _ _ _ is c.change_area.ensures c.requires.unprinted

-- OS_ReadDynamicArea and OS_DynamicArea

pub returns-in-Some-ReadDynamicArea-clause-done : goal.returns-in-Some-ReadDynamicArea-clause-done
returns-in-Some-ReadDynamicArea-clause-done c =
    let is : c.args.name ≡ Some swi.ReadDynamicArea = search rules in
    let s : MachineState = over c.self-in-Some-ReadDynamicArea.inside.memory c.self-in-Some-ReadDynamicArea.inside.cpu (record { area_table = c.self-in-Some-ReadDynamicArea.inside.areas; modules = c.self-in-Some-ReadDynamicArea.inside.instances; frames = c.self-in-Some-ReadDynamicArea.inside.frames; plan = c.self-in-Some-ReadDynamicArea.inside.plan; flex = c.self-in-Some-ReadDynamicArea.inside.flex }) c.self-in-Some-ReadDynamicArea.inside.halt in
    let left = area_store_left s _ _ _ _ c.read_area.ensures in
    rw (← c.self-in-Some-ReadDynamicArea.view_is) (read_answers _ _ _ _ _ _ _ is c.requires.unprinted left)

pub returns-in-Some-ReadDynamicArea-clause-unmoved : goal.returns-in-Some-ReadDynamicArea-clause-unmoved
returns-in-Some-ReadDynamicArea-clause-unmoved c =
    let s : MachineState = over c.self-in-Some-ReadDynamicArea.inside.memory c.self-in-Some-ReadDynamicArea.inside.cpu (record { area_table = c.self-in-Some-ReadDynamicArea.inside.areas; modules = c.self-in-Some-ReadDynamicArea.inside.instances; frames = c.self-in-Some-ReadDynamicArea.inside.frames; plan = c.self-in-Some-ReadDynamicArea.inside.plan; flex = c.self-in-Some-ReadDynamicArea.inside.flex }) c.self-in-Some-ReadDynamicArea.inside.halt in
    let left = area_store_left s _ _ _ _ c.read_area.ensures in
    rw (← c.self-in-Some-ReadDynamicArea.view_is) (went_unmoved _ _ _ _ _ left)

pub invariant_of-self-in-Some-DynamicArea : goal.invariant_of-self-in-Some-DynamicArea
invariant_of-self-in-Some-DynamicArea c = well_left _ _ c.self-in-Some-DynamicArea.invariant c.call_area.ensures.leaves refl (c.call_area.ensures.leaves.sizes ∙ c.self-in-Some-DynamicArea.invariant.sized)

pub returns-in-Some-DynamicArea-clause-done : goal.returns-in-Some-DynamicArea-clause-done
returns-in-Some-DynamicArea-clause-done c =
    let is : c.args.name ≡ Some swi.DynamicArea = search rules in
    let s : MachineState = over c.self-in-Some-DynamicArea.inside.memory c.self-in-Some-DynamicArea.inside.cpu (record { area_table = c.self-in-Some-DynamicArea.inside.areas; modules = c.self-in-Some-DynamicArea.inside.instances; frames = c.self-in-Some-DynamicArea.inside.frames; plan = c.self-in-Some-DynamicArea.inside.plan; flex = c.self-in-Some-DynamicArea.inside.flex }) c.self-in-Some-DynamicArea.inside.halt in
    let left = area_store_left s _ _ _ _ c.call_area.ensures.state in
    rw (← c.self-in-Some-DynamicArea.view_is) (area_answers _ _ _ _ _ _ _ is c.requires.unprinted left)

pub returns-in-Some-DynamicArea-clause-unmoved : goal.returns-in-Some-DynamicArea-clause-unmoved
returns-in-Some-DynamicArea-clause-unmoved c =
    let s : MachineState = over c.self-in-Some-DynamicArea.inside.memory c.self-in-Some-DynamicArea.inside.cpu (record { area_table = c.self-in-Some-DynamicArea.inside.areas; modules = c.self-in-Some-DynamicArea.inside.instances; frames = c.self-in-Some-DynamicArea.inside.frames; plan = c.self-in-Some-DynamicArea.inside.plan; flex = c.self-in-Some-DynamicArea.inside.flex }) c.self-in-Some-DynamicArea.inside.halt in
    let left = area_store_left s _ _ _ _ c.call_area.ensures.state in
    rw (← c.self-in-Some-DynamicArea.view_is) (went_unmoved _ _ _ _ _ left)
