-- The flex calls of the machine: what they ask of it, that it is well-formed after them, and what
-- they leave of it.
use Rattle.std.proofs.Common.{◌≡◌, ◌≤◌, ◌<◌, Bool, true, false, List, [], Option, Some, None, Result, Ok, Err, length, lit≤, refl, sym, ◌∙◌, ap, subst}
use Rattle.profile.specs.Outcome.{Leaves}
use Rattle.os_heap.specs.AddressMap.{AddressMap}
use Rattle.os_heap.specs.Memory.{free_pages}
use Rattle.arm_run.specs.State.{State}
use Rattle.swi_dispatch_plans.specs.flex.Flex.{Flex}
use Rattle.swi_dispatch_plans.proofs.ModuleStates.{few_records}
use Rattle.swi_dispatch_plans.specs.Sound.{IsModuleState}
use Rattle.swi_dispatch_plans.specs.ModuleState.{ModuleState, module_state_of}
use Rattle.swi_dispatch_plans.specs.Given.{Given}
use Rattle.swi_dispatch_plans.specs.Plans.{Plan}
use Rattle.swi_dispatch_plans.specs.Image.{Image}
use Rattle.swi_dispatch_plans.specs.InstancesTableModules.{Module, slots_of}
use Rattle.swi_dispatch_plans.specs.Refusal.{Refusal}
use Rattle.swi_dispatch_plans.specs.flex.Calls.{FlexMemory, memory_of}
use Rattle.swi_dispatch_plans.specs.flex.Leaving.{CanCallFlex, LeavesFlex}
use Rattle.swi_dispatch_plans.specs.Turns.{MayGoOn}
use Rattle.swi_dispatch_plans.specs.Pending.{is_pending, pending_by, pending_of}
use Rattle.swi_dispatch_plans.specs.Ready.{IsReady}
use Rattle.swi_dispatch_guest.specs.declared.halt.Halt.{Halt}
use Rattle.swi_dispatch_guest.specs.Calls.{on_flex}
use Rattle.swi_dispatch_guest.specs.MachineState.{Tables}
use Rattle.swi_dispatch_guest.specs.GuestState.{IsWellFormed, GuestState, parts_module_state}
use Rattle.swi_dispatch_guest.proofs.Kept.{over, with_core}
use Rattle.swi_dispatch_guest.proofs.OpenFrames.{frames_kept}
use Rattle.swi_dispatch_guest.proofs.StoreCalls.{same_pages}

-- there is room for one record more
pub pending_one : (b : Bool) (g : Given) → length (pending_by b g []) ≤ 1
pending_one true g = lit≤ tt
pending_one false g = lit≤ tt

few_ranges : (w : ModuleState) (plan : Option Plan) → MayGoOn w plan → length w.modules ≤ 64
    → length w.area_store.store.others < 68
few_ranges w None going few = few_records w [] going few (lit≤ tt)
few_ranges w (Some p) going few =
    few_records w (pending_of p) going.1.module_state few (pending_one (is_pending p.actions) p.given)

pub can_call : (p : GuestState) → IsWellFormed p → length p.tables.modules ≤ 64 → CanCallFlex p.map p.tables.flex
can_call p well few = record {
  flex = well.flex;
  sound = well.areas.ground.sound;
  classes = well.classes;
  few = few_ranges (parts_module_state p) p.tables.plan well.modules few;
}

-- a module call that is under way goes on where the module state it stands on does
goes_on : (w v : ModuleState) (plan : Option Plan) → v.modules ≡ w.modules
    → ((pending : List Image) → IsModuleState w pending → IsModuleState v pending) → MayGoOn w plan → MayGoOn v plan
goes_on w v None same module_states going = module_states [] going
goes_on w v (Some p) same module_states going = (
  going.0,
  record {
    module_state = module_states (pending_of p) going.1.module_state;
    ready = subst (λ (ms : List Module). IsReady ms p) (sym same) going.1.ready;
    code = going.1.code;
  },
)

module_state_there : (w : ModuleState) (plan : Option Plan) → MayGoOn w plan → (pending : List Image) × IsModuleState w pending
module_state_there w None going = ([], going)
module_state_there w (Some p) going = (pending_of p, going.1.module_state)

-- the modules' module state after a flex call
abbrev module_state_left : GuestState → AddressMap → ModuleState
module_state_left p n = module_state_of n p.tables.area_table p.tables.modules

left_going : (p : GuestState) (n : AddressMap) (g : Flex) → IsWellFormed p → LeavesFlex p.map n g
    → MayGoOn (module_state_left p n) p.tables.plan
left_going p n g well left =
    goes_on (parts_module_state p) (module_state_left p n) p.tables.plan refl (left.module_state p.tables.area_table p.tables.modules) well.modules

pub same_free : (p : GuestState) (n : AddressMap) (g : Flex) → IsWellFormed p → LeavesFlex p.map n g
    → free_pages n ≡ free_pages p.map
same_free p n g well left =
    let there = module_state_there (module_state_left p n) p.tables.plan (left_going p n g well left) in
    same_pages p.map n p.tables.area_table well.areas there.1.area_store

-- the parts of the machine then
pub well_flexed : (old new : GuestState) → IsWellFormed old → LeavesFlex old.map new.map new.tables.flex
    → new.tables ≡ record old.tables { flex = new.tables.flex } → new.sizes ≡ old.sizes → IsWellFormed new
well_flexed old new well left tables sizes =
    let area_table : new.tables.area_table ≡ old.tables.area_table = ap (λ (t : Tables). t.area_table) tables in
    let modules : new.tables.modules ≡ old.tables.modules = ap (λ (t : Tables). t.modules) tables in
    let plan : new.tables.plan ≡ old.tables.plan = ap (λ (t : Tables). t.plan) tables in
    let going : MayGoOn (module_state_left old new.map) old.tables.plan = left_going old new.map new.tables.flex well left in
    let there = module_state_there (module_state_left old new.map) old.tables.plan going in
    record {
      areas = rw area_table there.1.area_store;
      classes = left.classes;
      system = there.1.system;
      modules = rw (plan, area_table, modules) going;
      frames =
          frames_kept old.tables new.tables well.frames (ap (λ (t : Tables). t.frames) tables) plan
          (ap slots_of modules);
      flex = left.flex;
      sized = rw area_table (well.sized ∙ sym sizes);
    }

-- the written machine then
abbrev with_place : Tables → FlexMemory → Tables
with_place t s = record t { flex = s.flex }

pub flex_left : (m n : AddressMap) (cpu cpu' : State) (tables : Tables) (halt : Option Halt) (g : Flex)
    (r : Result (State × FlexMemory) Refusal) (x : Result (Unit {0}) Refusal) → free_pages n ≡ free_pages m
    → Leaves {U = Unit {0}} (cpu, memory_of m tables.flex) r x (cpu', memory_of n g)
    → Leaves {U = Unit {0}} (over m cpu tables halt) (on_flex (over m cpu tables halt) r) x
    (over n cpu' (with_place tables (memory_of n g)) halt)
flex_left m n cpu cpu' tables halt g (Ok q) (Ok u) pool left =
    λ i. with_core (left i).0 (pool i) (with_place tables (left i).1) halt (left i).1.store
flex_left m n cpu cpu' tables halt g (Err f) (Err e) pool left =
    (left.0, λ i. with_core (left.1 i).0 (pool i) (with_place tables (left.1 i).1) halt (left.1 i).1.store)
flex_left m n cpu cpu' tables halt g (Ok q) (Err e) pool left = absurd left
flex_left m n cpu cpu' tables halt g (Err f) (Ok u) pool left = absurd left
