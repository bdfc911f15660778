-- What the families of store calls leave of the machine, by what they leave of its parts.
use Rattle.std.proofs.Common.{◌≡◌, false, Option, Result, Ok, Err, sym, ◌∙◌, ap}
use Rattle.profile.specs.Outcome.{Leaves}
use Rattle.os_heap.specs.AddressMap.{AddressMap}
use Rattle.os_heap.specs.Memory.{free_pages}
use Rattle.arm_run.specs.State.{State}
use Rattle.os_heap.specs.Store.{Store, store_of}
use Rattle.swi_dispatch_plans.specs.Areas.{AreaTable}
use Rattle.swi_dispatch_plans.specs.Ground.{AreaStore, IsAreaStore, area_store_of}
use Rattle.swi_dispatch_plans.proofs.HeapCalls.{pool_is}
use Rattle.swi_dispatch_plans.specs.ModuleState.{ModuleState}
use Rattle.swi_dispatch_plans.specs.Refusal.{Refusal}
use Rattle.swi_dispatch_plans.specs.store.Leaving.{LeavesSound}
use Rattle.swi_dispatch_plans.specs.modules.Leaving.{LeavesModuleState}
use Rattle.swi_dispatch_guest.specs.declared.halt.Halt.{Halt}
use Rattle.swi_dispatch_guest.specs.Calls.{on_area_store, on_store, on_module_state, with_guest}
use Rattle.swi_dispatch_guest.specs.MachineState.{MachineState, Tables}
use Rattle.swi_dispatch_guest.specs.GuestState.{IsWellFormed, GuestState}
use Rattle.swi_dispatch_guest.proofs.Kept.{flex_by, over, well_called, with_core}
use Rattle.swi_dispatch_guest.proofs.OpenFrames.{frames_kept}

-- the pages of the pool are those that no area has
pub same_pages : (m n : AddressMap) (l : AreaTable) → IsAreaStore (area_store_of m l) → IsAreaStore (area_store_of n l) → free_pages n ≡ free_pages m
same_pages m n l old new = pool_is _ _ l new ∙ sym (pool_is _ _ l old)

pub store_left : (m n : AddressMap) (cpu cpu' : State) (tables : Tables) (halt : Option Halt) (r : Result (State × Store) Refusal)
    (x : Result (Unit {0}) Refusal) → free_pages n ≡ free_pages m → Leaves {U = Unit {0}} (cpu, store_of m) r x (cpu', store_of n)
    → Leaves {U = Unit {0}} (over m cpu tables halt) (on_store (over m cpu tables halt) r) x (over n cpu' tables halt)
store_left m n cpu cpu' tables halt (Ok q) (Ok u) pool left = λ i. with_core (left i).0 (pool i) tables halt (left i).1
store_left m n cpu cpu' tables halt (Err f) (Err e) pool left =
    (left.0, λ i. with_core (left.1 i).0 (pool i) tables halt (left.1 i).1)
store_left m n cpu cpu' tables halt (Ok q) (Err e) pool left = absurd left
store_left m n cpu cpu' tables halt (Err f) (Ok u) pool left = absurd left

-- the machine over other areas, and over other modules too
abbrev over_area_store : MachineState → State × AreaStore → MachineState
over_area_store s q = with_guest s q

pub area_store_left : (s : MachineState) (old new : State × AreaStore) (r : Result (State × AreaStore) Refusal) (x : Result (Unit {0}) Refusal)
    → Leaves {U = Unit {0}} old r x new
    → Leaves {U = Unit {0}} (with_guest s old) (on_area_store (with_guest s old) r) x (with_guest s new)
area_store_left s old new (Ok q) (Ok u) left = ap (with_guest s) left
area_store_left s old new (Err f) (Err e) left = (left.0, ap (with_guest s) left.1)
area_store_left s old new (Ok q) (Err e) left = absurd left
area_store_left s old new (Err f) (Ok u) left = absurd left

abbrev pub with_module_states : MachineState → State × ModuleState → MachineState
with_module_states s q = record s { cpu = q.0; store = q.1.area_store.store; pool = q.1.area_store.pool; tables = record s.tables { area_table = q.1.area_store.area_table; modules = q.1.modules } }

pub module_state_left : (s : MachineState) (old new : State × ModuleState) (r : Result (State × ModuleState) Refusal) (x : Result (Unit {0}) Refusal)
    → Leaves {U = Unit {0}} old r x new
    → Leaves {U = Unit {0}} (with_module_states s old) (on_module_state (with_module_states s old) r) x (with_module_states s new)
module_state_left s old new (Ok q) (Ok u) left = ap (with_module_states s) left
module_state_left s old new (Err f) (Err e) left = (left.0, ap (with_module_states s) left.1)
module_state_left s old new (Ok q) (Err e) left = absurd left
module_state_left s old new (Err f) (Ok u) left = absurd left

-- the parts of the machine then
pub well_left : (old new : GuestState) → IsWellFormed old → LeavesSound old.map new.map old.tables.area_table new.tables.area_table
    → new.tables ≡ record old.tables { area_table = new.tables.area_table } → new.tables.area_table.sizes ≡ new.sizes → IsWellFormed new
well_left old new well left tables sized =
    well_called old new well left.area_store left.classes left.others (ap (λ (t : Tables). t.modules) tables) (ap (λ (t : Tables). t.plan) tables)
    (ap (λ (t : Tables). t.frames) tables) left.flex (ap (λ (t : Tables). t.flex) tables) sized

pub well_after : (old new : GuestState) → IsWellFormed old
    → LeavesModuleState old.map new.map old.tables.area_table new.tables.area_table old.tables.modules new.tables.modules
    → new.tables ≡ record old.tables { area_table = new.tables.area_table; modules = new.tables.modules } → new.tables.area_table.sizes ≡ new.sizes
    → IsWellFormed new
well_after old new well left tables sized =
    let plan : new.tables.plan ≡ old.tables.plan = ap (λ (t : Tables). t.plan) tables in
    record {
      areas = left.memory.area_store;
      classes = left.memory.classes;
      system = rw left.memory.others well.system;
      modules = rw plan (left.going old.tables.plan well.modules);
      frames = frames_kept old.tables new.tables well.frames (ap (λ (t : Tables). t.frames) tables) plan left.slots;
      flex = flex_by old new well left.memory.area_store left.memory.flex (ap (λ (t : Tables). t.flex) tables);
      sized = sized;
    }
