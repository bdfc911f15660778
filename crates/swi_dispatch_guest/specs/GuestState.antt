-- The parts of a guest, and the written machine that they stand for.
use Rattle.std.specs.Prelude.{◌≡◌, ◌≢◌, ◌≤◌, ◌<◌, length, ℕ, zero, suc, IfSome, Option, Some, None, Result, Ok, Err}
use Rattle.profile.specs.Sizes.{Sizes}
use Rattle.os_heap.specs.AddressMap.{AddressMap}
use Rattle.os_heap.specs.Memory.{free_pages}
use Rattle.os_heap.specs.Store.{AreClasses, store_of}
use Rattle.swi_dispatch_plans.specs.Ground.{AreAreas, IsRecorded, system_pages_range}
use Rattle.swi_dispatch_plans.specs.Rooms.{IsAreaTable}
use Rattle.swi_dispatch_plans.specs.flex.Ground.{HasFlex}
use Rattle.arm_run.specs.StepEnd.{StepEnd}
use Rattle.arm_run.specs.StepEnd.TheVariants.{Done}
use Rattle.arm_run.specs.State.{IsCore, State}
use Rattle.swi_dispatch_plans.specs.ModuleState.{ModuleState, module_state_of}
use Rattle.swi_dispatch_plans.specs.Plans.{Plan}
use Rattle.swi_dispatch_plans.specs.InstancesTableModules.{AreModules}
use Rattle.swi_dispatch_plans.specs.Turns.{MayGoOn}
use Rattle.swi_dispatch_guest.specs.declared.halt.Halt.{Halt}
use Rattle.swi_dispatch_plans.specs.Refusal.{Refusal}
use Rattle.swi_dispatch_guest.specs.Answers.{Answer}
use Rattle.swi_dispatch_guest.specs.MachineState.{MachineState, StepOutcome, Tables}
use Rattle.swi_dispatch_guest.specs.OpenFrames.{AreFrames}
use Rattle.swi_dispatch_guest.specs.Step.{Turned, result_of_instruction}

-- the sizes are those that the machine was made with
pub record GuestState : Type 0 where
  pub cpu : State
  pub map : AddressMap
  pub tables : Tables
  pub halt : Option Halt
  pub sizes : Sizes

abbrev pub state_of : GuestState → MachineState
state_of p = record {
  cpu = p.cpu;
  store = store_of p.map;
  pool = free_pages p.map;
  tables = p.tables;
  halt = p.halt;
}

-- A call of the real machine, by its result, where the guest goes on and what it leaves, answers
-- so.
abbrev pub HasError : Option Refusal → Result (Unit {0}) Refusal → Type 0
HasError error (Ok _) = error ≡ None
HasError error (Err e) = error ≡ Some e

pub record Answers (a : Answer) (to : ℕ) (result : Result (Unit {0}) Refusal) (o : StepOutcome) : Type 0 where
  pub left : o ≡ a.left
  pub next : to ≡ a.next
  pub error : HasError a.error result

-- what calls on modules act on
abbrev pub parts_module_state : GuestState → ModuleState
parts_module_state p = module_state_of p.map p.tables.area_table p.tables.modules

-- What holds of every guest, whatever it does: the areas stand on its memory, so that memory spells
-- the lists of all heaps; the words that these lists spell are those that are marked; the system
-- pages are recorded; the recorded images are the modules', and the plan that is kept while module
-- code runs finds all that it asks for; one initialisation or finalisation is under way while a
-- plan is kept, and else none; each frame is of an instance that is there, and no SWI that waits
-- for an initialisation or a finalisation is of its instance, nor of one that the plan names;
-- memory spells the flex store, if there is one; and the areas are those of a machine of its sizes.
pub record IsWellFormed (p : GuestState) : Type 0 where
  pub areas : AreAreas (store_of p.map) (free_pages p.map) p.tables.area_table
  pub classes : AreClasses p.map
  pub system : IsRecorded system_pages_range (store_of p.map).others
  pub modules : MayGoOn (parts_module_state p) p.tables.plan
  pub frames : AreFrames p.tables
  pub flex : HasFlex p.map p.tables.flex
  pub sized : p.tables.area_table.sizes ≡ p.sizes

-- All that holds of every guest, whatever it does. Beside what its steps keep: the core has 26
-- registers, those of all banks, each a word, and its program counter is a multiple of 4 below
-- 2^26; bytes are below 256; the areas are a good table of at most 32; titles, names and slots of
-- modules differ, slots are below 64, and each module has a preferred instance; at most 32 frames
-- are open; and the text of a call that is under way has at most 255 bytes. (The slots that its
-- plan names are those of instances, or below 64 where it is to add one: that is said with the
-- plan, in `modules` of `IsWellFormed`.)
pub record IsGuest (p : GuestState) : Type 0 where
  pub well_formed : IsWellFormed p
  pub core : IsCore p.cpu
  pub bytes : (a : ℕ) → (store_of p.map).bytes.at a < 256
  pub areas : IsAreaTable p.tables.area_table.areas
  pub few_areas : length p.tables.area_table.areas ≤ 32
  pub modules : AreModules p.tables.modules
  pub frames : length p.tables.frames ≤ 32
  pub text : IfSome p.tables.plan (λ (plan : Plan). length plan.given.text.items ≤ 255)

-- a machine's state
pub record IsState (s : MachineState) : Type 0 where
  pub parts : GuestState
  pub is : state_of parts ≡ s
  pub machine : IsGuest parts

-- the core takes a turn, and the rest of the machine stays
abbrev pub TakesTurn : MachineState → StepEnd → MachineState → Type 0
TakesTurn s t s' = Turned s (result_of_instruction s) t s'

-- Another turn comes next than that of an instruction that is done: a software interrupt, the
-- address that module code returns to, or a fault.
pub record AwaitsOtherTurn (s : MachineState) : Type 0 where
  pub turn : StepEnd
  pub other : turn ≢ Done
  pub takes : TakesTurn s turn s

-- So many steps one after another, each an instruction that the core does by itself: none of them is a
-- software interrupt, a step at an address that module code returns to, or a fault.
unfoldable pub AreCoreSteps : ℕ → MachineState → MachineState → Type 0
AreCoreSteps zero s s' = s' ≡ s
AreCoreSteps (suc n) s s' = (next : MachineState) × (TakesTurn s Done next × AreCoreSteps n next s')
