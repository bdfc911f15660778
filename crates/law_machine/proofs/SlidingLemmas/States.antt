-- What every machine has are stores.
use Rattle.std.proofs.Common.{◌≤◌, [], Option, Some, None, lit≤}
use Rattle.instances_table.specs.plans.Plans.{Plan}
use Rattle.instances_table.specs.Modules.{AreModules}
use Rattle.swi_dispatch_guest.specs.Ground.{HasFlex}
use Rattle.instances.specs.Turns.{MayGoOn}
use Rattle.instances.specs.actions.Pending.{is_pending, pending_of}
use Rattle.swi_dispatch_guest.proofs.FlexCalls.{pending_one}
use Rattle.swi_dispatch_guest.specs.GuestState.{GuestState, parts_module_state}
use Rattle.law_machine.proofs.SlidingStoresLemmas.Turns.{machines_have}
use Rattle.law_machine.specs.sliding_stores.Meaning.{AreStores}
use Rattle.law_machine.specs.sliding.MachineStores.{StatesHaveStores, pending_in}

stores_by : (p : GuestState) (plan : Option Plan) → MayGoOn (parts_module_state p) plan → HasFlex p.map p.tables.flex → AreModules p.tables.modules
    → AreStores (record { module_state = parts_module_state p; flex = p.tables.flex; pending = pending_in plan })
stores_by p None going flex modules =
    machines_have p.map p.tables.area_table p.tables.modules [] p.tables.flex going flex modules (lit≤ tt)
stores_by p (Some q) going flex modules =
    machines_have p.map p.tables.area_table p.tables.modules (pending_of q) p.tables.flex going.1.module_state flex modules
    (pending_one (is_pending q.actions) q.given)

pub states_have : StatesHaveStores
states_have p is = stores_by p p.tables.plan is.well_formed.modules is.well_formed.flex is.modules
