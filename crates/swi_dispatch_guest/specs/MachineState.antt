-- The written machine: its core, its store (memory as a function from addresses to bytes, the lists
-- of all heaps, and the other recorded ranges), how many pages are in the pool, what stands beside
-- core and memory, and the halt that keeps it from further steps.
use Rattle.std.specs.Prelude.{ℕ, Option, None, List, []}
use Rattle.profile.specs.declared.stop.Stop.{Stop}
use Rattle.profile.specs.declared.stop.Stop.TheVariants as stop
use Rattle.profile.specs.Sizes.{Sizes}
use Rattle.os_heap.specs.Bytes.{Bytes}
use Rattle.arm_run.specs.State.{State, cpu_start_state}
use Rattle.os_heap.specs.Store.{Store}
use Rattle.swi_dispatch_plans.specs.Areas.{AreaTable, start_area_table}
use Rattle.swi_dispatch_plans.specs.Ground.{AreaStore, pool_of}
use Rattle.swi_dispatch_plans.specs.DynamicAreasStart.{start_store}
use Rattle.swi_dispatch_plans.specs.flex.Flex.{Flex}
use Rattle.swi_dispatch_plans.specs.ModuleState.{ModuleState}
use Rattle.swi_dispatch_plans.specs.Plans.{Plan}
use Rattle.swi_dispatch_plans.specs.InstancesTableModules.{Module}
use Rattle.swi_dispatch_plans.specs.Frame.{Frame}
use Rattle.swi_dispatch_plans.specs.PlannerInput.{PlannerInput}
use Rattle.swi_dispatch_guest.specs.declared.halt.Halt.{Halt}
use Rattle.swi_dispatch_guest.specs.declared.halt.Halt.TheVariants as halt

-- what stands beside the core and the memory: the areas, the modules, the frames of module code
-- that is under way, what is left to do of a call on modules whose code is under way, and where the
-- flex store is, if there is one
pub record Tables : Type 0 where
  pub area_table : AreaTable
  pub modules : List Module
  pub frames : List Frame
  pub plan : Option Plan
  pub flex : Flex

pub record MachineState : Type 0 where
  pub cpu : State
  pub store : Store
  pub pool : ℕ
  pub tables : Tables
  pub halt : Option Halt

-- what a step leaves: the machine, and the bytes that it printed
pub record StepOutcome : Type 0 where
  pub now : MachineState
  pub printed : List ℕ

abbrev pub outcome_with : MachineState → List ℕ → StepOutcome
outcome_with s printed = record { now = s; printed = printed }

-- what is left where nothing is printed
abbrev pub silent : MachineState → StepOutcome
silent s = record { now = s; printed = [] }

abbrev pub stop_of : Halt → Stop
stop_of halt.Exit = stop.Exit
stop_of (halt.Fault f) = stop.Fault f

-- memory written to, and no list changed
abbrev pub with_memory : Store → Bytes → Store
with_memory s b = record s { bytes = b }

-- what calls on memory act on, and the machine after one of them
abbrev pub machine_area_store : MachineState → AreaStore
machine_area_store s = record { store = s.store; pool = s.pool; area_table = s.tables.area_table }

abbrev pub with_area_store : MachineState → AreaStore → MachineState
with_area_store s e = record s {
  store = e.store;
  pool = e.pool;
  tables = record s.tables
      { area_table = e.area_table };
}

abbrev pub with_modules : MachineState → List Module → MachineState
with_modules s modules = record s { tables = record s.tables { modules = modules } }

-- what calls on modules act on, and the machine after one of their actions
abbrev pub machine_module_state : MachineState → ModuleState
machine_module_state s = record { area_store = machine_area_store s; modules = s.tables.modules }

abbrev pub with_module_state : MachineState → ModuleState → MachineState
with_module_state s w = with_modules (with_area_store s w.area_store) w.modules

-- what a call on modules finds as it begins
abbrev pub setting_of : MachineState → PlannerInput
setting_of s = record {
  cpu = s.cpu;
  module_state = machine_module_state s;
  frames = s.tables.frames;
  plan =
      s.tables.plan;
}

-- the start: all pages but those mapped then are in the pool
unfoldable pub machine_start : Sizes → MachineState
machine_start s = record {
  cpu = cpu_start_state;
  store = start_store s;
  pool = pool_of (start_area_table s);
  tables = record {
    area_table = start_area_table s;
    modules = [];
    frames = [];
    plan = None;
    flex = record { extent = None };
  };
  halt = None;
}
