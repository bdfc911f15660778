-- The actions of module calls stay in the module area and the system pages: private words, the
-- environment text, images, removals, and the slide.
use Rattle.std.specs.Prelude.{ℕ, ◌≤◌, ◌<◌, List, [], ◌∷◌, length}
use Rattle.address_map.specs.Bytes.{Bytes}
use Rattle.address_map.specs.declared.region.Region.{Region}
use Rattle.dynamic_areas.specs.Ground.{AreaStore}
use Rattle.rma.specs.Calls.{with_store}
use Rattle.instances_table.specs.declared.parts.Image.{Image}
use Rattle.instances_table.specs.Modules.{AreModules, Module, slots_of}
use Rattle.instances_table.specs.declared.plans.action.PlanAction.{PlanAction}
use Rattle.instances_table.specs.declared.plans.action.PlanAction.TheVariants as act
use Rattle.instances_table.specs.declared.plans.given.Given.{Given}
use Rattle.instances_table.specs.plans.Carrying.{carry_of_plan}
use Rattle.instances_table.specs.plans.Doable.{IsDoable}
use Rattle.instances_table.specs.plans.Plans.{Plan}
use Rattle.instances.specs.module_state.ModuleState.{ModuleState, image_gone, private_freed, with_private, with_text}
use Rattle.instances.specs.tidying.Slid.{module_state_slid}
use Rattle.instances.specs.actions.Actions.{module_state_after_action}
use Rattle.instances.specs.Turns.{module_doing}
use Rattle.law_machine.specs.heap_frame.FitAreaStores.{AreaStoreStaysFit, IsFitAreaStore}
use Rattle.law_machine.specs.heap_frame.Fits.{WritesThere}

-- What is written to the module area's blocks and the system pages, what is recorded, and what is
-- given back.
pub record WordsStayFit (e : AreaStore) : Type 0 where
  pub bytes : (c : Bytes) → WritesThere e.store c → AreaStoreStaysFit e
      (with_store e (record e.store { bytes = c }))
  pub records : (others : List Region) → AreaStoreStaysFit e
      (with_store e (record e.store { others = others }))
  pub word : (slot value : ℕ) → slot < 64 → AreaStoreStaysFit e (with_private e slot value)
  pub text : (text : List ℕ) → length text ≤ 255 → AreaStoreStaysFit e (with_text e text)
  pub block : (slot : ℕ) → slot < 64 → AreaStoreStaysFit e (private_freed e slot)
  pub image : (image : Image) → AreaStoreStaysFit e (image_gone e image)

abbrev pub WritesStayFit : Type 0
WritesStayFit = (e : AreaStore) → IsFitAreaStore e → WordsStayFit e

-- the private word of each instance has its place
abbrev pub AreBelow : List ℕ → Type 0
AreBelow [] = Unit {0}
AreBelow (slot ∷ slots) = (slot < 64) × AreBelow slots

pub record IsFitModuleState (w : ModuleState) : Type 0 where
  pub area_store : IsFitAreaStore w.area_store
  pub slots : AreBelow (slots_of w.modules)

pub record ModuleStateStaysFit (w v : ModuleState) : Type 0 where
  pub area_store : AreaStoreStaysFit w.area_store v.area_store
  pub slots : AreBelow (slots_of v.modules)

-- the slots of the actions that name one whose word is written
abbrev pub slot_named : PlanAction → List ℕ
slot_named (act.Remove slot) = slot ∷ []
slot_named (act.FreePrivate slot) = slot ∷ []
slot_named (act.Insert slot) = slot ∷ []
slot_named (act.Instantiate slot) = slot ∷ []
slot_named other = []

abbrev pub ActsStayFit : Type 0
ActsStayFit =
    (w : ModuleState) (g : Given) (a : PlanAction) → IsFitModuleState w → AreBelow (slot_named a) →
    length g.text.items ≤ 255
    → ModuleStateStaysFit w (module_state_after_action module_state_slid g w a)

-- and a plan's
abbrev pub AreActionsBelow : List PlanAction → Type 0
AreActionsBelow [] = Unit {0}
AreActionsBelow (a ∷ actions) = AreBelow (slot_named a) × AreActionsBelow actions

-- Good modules have such slots, and a plan that finds the instances that it names names no others.
abbrev pub ModulesAreBelow : Type 0
ModulesAreBelow = (modules : List Module) → AreModules modules → AreBelow (slots_of modules)

abbrev pub DoablePlansAreBelow : Type 0
DoablePlansAreBelow =
    (modules : List Module) (p : Plan) → AreModules modules → IsDoable (slots_of modules) p →
    AreActionsBelow p.actions

-- A plan is carried on to its next code, or to its end.
abbrev pub PlansStayFit : Type 0
PlansStayFit =
    (w : ModuleState) (p : Plan) → IsFitModuleState w → AreActionsBelow p.actions → length
    p.given.text.items ≤ 255
    → ModuleStateStaysFit w (carry_of_plan module_doing w p).module_state
