-- What a machine has of the stores that flex calls and slides act on.
use Rattle.std.specs.Prelude.{Option, Some, None, List, []}
use Rattle.instances_table.specs.plans.Plans.{Plan}
use Rattle.instances_table.specs.declared.parts.Image.{Image}
use Rattle.instances.specs.actions.Pending.{pending_of}
use Rattle.swi_dispatch_guest.specs.MachineState.{MachineState, machine_module_state}
use Rattle.swi_dispatch_guest.specs.GuestState.{IsGuest, GuestState, state_of}
use Rattle.law_machine.specs.sliding_stores.Meaning.{AreStores, Stores}

-- the image that the call under way has recorded and not added to the modules yet, if there is one
abbrev pub pending_in : Option Plan → List Image
pending_in None = []
pending_in (Some p) = pending_of p

-- memory with areas and modules, where the flex store is, and what is pending
abbrev pub stores_of : MachineState → Stores
stores_of s = record {
  module_state = machine_module_state s;
  flex = s.tables.flex;
  pending = pending_in
      s.tables.plan;
}

-- All that the laws over stores ask for holds of those of every machine.
abbrev pub StatesHaveStores : Type 0
StatesHaveStores = (p : GuestState) → IsGuest p → AreStores (stores_of (state_of p))
