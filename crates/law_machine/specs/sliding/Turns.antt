-- Which steps of a machine are turns of its stores: each flex call but Flex_Size, and the step of a
-- tidy in which the module area slides (Acorn C manual, "flex"; RISC OS 3 Programmer's Reference
-- Manual, "OS_Module", reason 8).
use Rattle.std.specs.Prelude.{ℕ, ◌≡◌, Bool, true, false, Option, Some, None, Ok, List, [], ◌∷◌}
use Rattle.std.specs.List.{list_any}
use Rattle.profile.specs.declared.swi.SwiName.{SwiName}
use Rattle.profile.specs.declared.swi.SwiName.TheVariants as swi
use Rattle.arm_core.specs.State.{State, register_of}
use Rattle.instances_table.specs.declared.plans.action.PlanAction.{PlanAction}
use Rattle.instances_table.specs.declared.plans.action.PlanAction.TheVariants as act
use Rattle.instances_table.specs.plans.Plans.{Plan}
use Rattle.instances_table.specs.Changes.{is_slot_held}
use Rattle.instances.specs.module_state.ModuleState.{private_word}
use Rattle.flex_store.specs.Runs.{Alloc, Extend, MidExtend, Release}
use Rattle.swi_dispatch_guest.specs.MachineState.{MachineState}
use Rattle.law_machine.specs.sliding_stores.Laws.{IsFollowed}
use Rattle.law_machine.specs.sliding_stores.Meaning.{AreStores, Stores, meaning_of, store_in}
use Rattle.law_machine.specs.sliding_stores.Turning.{Call, Init, Slide, FlexOrSlide, answer_of_turn, stores_after_step}
use Rattle.law_machine.specs.sliding.MachineStores.{stores_of}

-- the flex calls that change the store
pub data FlexSwi : Type 0 where
  MadeStore : FlexSwi
  Allocated : FlexSwi
  Freed : FlexSwi
  Extended : FlexSwi
  MidExtended : FlexSwi

abbrev pub flex_name : FlexSwi → SwiName
flex_name MadeStore = swi.FlexInit
flex_name Allocated = swi.FlexAlloc
flex_name Freed = swi.FlexFree
flex_name Extended = swi.FlexExtend
flex_name MidExtended = swi.FlexMidExtend

-- each as a turn of what its registers have
abbrev pub flex_turn : FlexSwi → State → FlexOrSlide
flex_turn MadeStore cpu = Init (register_of cpu 0) (register_of cpu 1)
flex_turn Allocated cpu = Call (Alloc (register_of cpu 0) (register_of cpu 1))
flex_turn Freed cpu = Call (Release (register_of cpu 0))
flex_turn Extended cpu = Call (Extend (register_of cpu 0) (register_of cpu 1))
flex_turn MidExtended cpu = Call (MidExtend (register_of cpu 0) (register_of cpu 1) (register_of cpu 2))

-- The machine's stores follow the turn. Where it wasn't refused they are just those that it leaves.
-- What is left of a call on modules that is under way stays.
pub record IsTurnMade (turn : FlexOrSlide) (s t : MachineState) : Type 0 where
  pub followed : IsFollowed turn (stores_of s) (stores_of t)
  pub exact : (room : Bool) → answer_of_turn turn (stores_of s) ≡ Ok room →
      stores_of t ≡ stores_after_step turn (stores_of s)
  pub plan : t.tables.plan ≡ s.tables.plan

-- Stores that mean what those before them do. The private words of instances are the same, and the
-- modules.
pub record StoresAreStill (x y : Stores) : Type 0 where
  pub meaning : meaning_of y ≡ meaning_of x
  pub words : (slot : ℕ) → is_slot_held slot x.module_state.modules ≡ true
      → private_word y.module_state.area_store slot ≡ private_word x.module_state.area_store slot
  pub modules : y.module_state.modules ≡ x.module_state.modules
  pub stores : AreStores y
  pub mapped : (store_in y).bytes.mapped ≡ (store_in x).bytes.mapped
  pub pool : y.module_state.area_store.pool ≡ x.module_state.area_store.pool
  pub area_table : y.module_state.area_store.area_table ≡ x.module_state.area_store.area_table
  pub pending : y.pending ≡ x.pending

-- What is left of a tidy that has not slid yet: finalisations, the slide, and initialisations; or
-- where a finalisation refuses, initialisations alone.
abbrev pub AreInitialisations : List PlanAction → Type 0
AreInitialisations [] = Unit {0}
AreInitialisations (act.Initialise slot ∷ others) = AreInitialisations others
AreInitialisations _ = ⊥

abbrev pub AreTidying : List PlanAction → Type 0
AreTidying (act.Finalise slot fatal ∷ others) = AreTidying others
AreTidying (act.Slide ∷ others) = AreInitialisations others
AreTidying _ = ⊥

pub record IsTidy (return_address : ℕ) (p : Plan) : Type 0 where
  pub actions : AreTidying p.actions
  pub instead : AreInitialisations p.instead
  pub return : p.given.return_address ≡ return_address

abbrev pub IsTidyKept : ℕ → Option Plan → Type 0
IsTidyKept return_address None = ⊥
IsTidyKept return_address (Some p) = IsTidy return_address p

-- Is a slide still to be made?
abbrev pub is_slide : PlanAction → Bool
is_slide act.Slide = true
is_slide _ = false

abbrev pub is_to_slide : Option Plan → Bool
is_to_slide None = false
is_to_slide (Some p) = list_any is_slide p.actions

-- A step of a tidy: as long as the slide is to be made the stores stay as they are, and the tidy is
-- kept; else it was made in this step.
pub record IsTidied (return_address : ℕ) (s t : MachineState) : Type 0 where
  pub waits : is_to_slide t.tables.plan ≡ true
      → IsTidyKept return_address t.tables.plan × StoresAreStill (stores_of s) (stores_of t)
  pub slides : is_to_slide t.tables.plan ≡ false → IsFollowed (Slide return_address) (stores_of s)
      (stores_of t)
