use Rattle.std.proofs.Common.{refl}
use Rattle.os_heap.specs.Store.{store_of}
use Rattle.swi_dispatch_plans.proofs.ModulesLemmas.Leaving.{named_left, nothing_left, private_room, module_state_left}
use Rattle.swi_dispatch_plans.proofs.modules.calls.call_module.Goals as goal

pub print_instance-requires : goal.print_instance-requires
unfolding store_of
print_instance-requires c = private_room _ _ c.requires.state.area_store

pub find_instance-requires : goal.find_instance-requires
unfolding store_of
find_instance-requires c = private_room _ _ c.requires.state.area_store

pub returns-in-Some-Claim-clause-leaves : goal.returns-in-Some-Claim-clause-leaves
returns-in-Some-Claim-clause-leaves c =
    let did = c.claim.ensures.kept in
    module_state_left _ _ _ _ _
    (record { area_store = did.area_store; classes = did.classes; others = did.others; flex = did.flex; sizes = did.sizes })

pub returns-in-Some-Extend-clause-leaves : goal.returns-in-Some-Extend-clause-leaves
returns-in-Some-Extend-clause-leaves c =
    let did = c.extend.ensures.kept in
    module_state_left _ _ _ _ _
    (record { area_store = did.area_store; classes = did.classes; others = did.others; flex = did.flex; sizes = did.sizes })

pub returns-in-Some-Free-clause-leaves : goal.returns-in-Some-Free-clause-leaves
returns-in-Some-Free-clause-leaves c =
    let did = c.free.ensures.kept in
    module_state_left _ _ _ _ _
    (record {
      area_store = did.area_store c.args.areas.now c.requires.state.area_store;
      classes = did.classes;
      others = did.others;
      flex = did.flex;
      sizes = refl;
    })

pub returns-in_err-full-in-Some-Rename-clause-leaves : goal.returns-in_err-full-in-Some-Rename-clause-leaves
returns-in_err-full-in-Some-Rename-clause-leaves c = nothing_left _ _ _ c.requires.state

pub returns-in_err-new-in-Some-Rename-clause-leaves : goal.returns-in_err-new-in-Some-Rename-clause-leaves
returns-in_err-new-in-Some-Rename-clause-leaves c = nothing_left _ _ _ c.requires.state

pub returns-in_ok-new-in-Some-Rename-clause-leaves : goal.returns-in_ok-new-in-Some-Rename-clause-leaves
returns-in_ok-new-in-Some-Rename-clause-leaves c =
    named_left _ _ _ _ c.requires.state c.rename.ensures.slots (c.rename.ensures.going _)

pub returns-in_err-full-in-Some-Prefer-clause-leaves : goal.returns-in_err-full-in-Some-Prefer-clause-leaves
returns-in_err-full-in-Some-Prefer-clause-leaves c = nothing_left _ _ _ c.requires.state

pub returns-in_ok-full-in-Some-Prefer-clause-leaves : goal.returns-in_ok-full-in-Some-Prefer-clause-leaves
returns-in_ok-full-in-Some-Prefer-clause-leaves c =
    named_left _ _ _ _ c.requires.state c.prefer.ensures.slots (c.prefer.ensures.going _)

pub returns-in-Some-DescribeArea-clause-leaves : goal.returns-in-Some-DescribeArea-clause-leaves
returns-in-Some-DescribeArea-clause-leaves c = nothing_left _ _ _ c.requires.state

pub returns-in-Some-Info-clause-leaves : goal.returns-in-Some-Info-clause-leaves
returns-in-Some-Info-clause-leaves c = nothing_left _ _ _ c.requires.state

pub returns-in-Some-Lookup-clause-leaves : goal.returns-in-Some-Lookup-clause-leaves
returns-in-Some-Lookup-clause-leaves c = nothing_left _ _ _ c.requires.state

pub returns-in_default-clause-leaves : goal.returns-in_default-clause-leaves
returns-in_default-clause-leaves c = nothing_left _ _ _ c.requires.state

pub returns-in_default-2-clause-leaves : goal.returns-in_default-2-clause-leaves
returns-in_default-2-clause-leaves c = nothing_left _ _ _ c.requires.state
