-- Over lists of flex calls and slides the meaning of a machine's stores moves by rules in which no
-- address of a block stands.
use Rattle.std.specs.Prelude.{ℕ, ◌≡◌, ◌≤◌, length, List, [], ◌∷◌, map, Some}
use Rattle.address_map.specs.declared.map.AddressMap.{AddressMap}
use Rattle.dynamic_areas.specs.Areas.{AreaTable}
use Rattle.swi_dispatch_guest.specs.Ground.{HasFlex}
use Rattle.flex_store.specs.declared.flex.Flex.{Flex}
use Rattle.instances_table.specs.declared.parts.Image.{Image}
use Rattle.instances_table.specs.Modules.{AreModules, Module}
use Rattle.swi_dispatch_guest.specs.Sound.{IsModuleState}
use Rattle.swi_dispatch_guest.specs.ModuleState.{private_word, module_state_of}
use Rattle.law_machine.specs.sliding_stores.Meaning.{AreStores, Stores, Value, meaning_of, store_in}
use Rattle.law_machine.specs.sliding_stores.Rules.{IsTurned}
use Rattle.law_machine.specs.sliding_stores.Turning.{AreAllowed, FlexOrSlide, answer_of_turn, anchor_place_of_turn, stores_after_step}

-- a module, wherever its image stands
abbrev pub module_without_place : Module → Module
module_without_place m = record m { image = record m.image { at = 0 } }

-- A turn moves the meaning of the stores by its rule. A private word that had a value has it still,
-- and the modules are what they were, but for where their images stand. What has to hold of stores
-- holds of those that it leaves; the same memory is mapped, with as many pages in the pool and the
-- same areas, and what is pending is pending still.
pub record IsFollowed (turn : FlexOrSlide) (x y : Stores) : Type 0 where
  pub rule : IsTurned turn (anchor_place_of_turn turn x) (answer_of_turn turn x) (meaning_of x) (meaning_of y)
  pub words : (slot word : ℕ) → (meaning_of x).names slot ≡ Some (Value word)
      → private_word y.module_state.area_store slot ≡ word
  pub modules : map module_without_place y.module_state.modules ≡ map module_without_place
      x.module_state.modules
  pub stores : AreStores y
  pub mapped : (store_in y).bytes.mapped ≡ (store_in x).bytes.mapped
  pub pool : y.module_state.area_store.pool ≡ x.module_state.area_store.pool
  pub area_table : y.module_state.area_store.area_table ≡ x.module_state.area_store.area_table
  pub pending : y.pending ≡ x.pending

-- each of some turns, from the stores before it to those after it
abbrev pub AreFollowed : Stores → List FlexOrSlide → Type 0
AreFollowed x [] = Unit {0}
AreFollowed x (turn ∷ turns) = IsFollowed turn x (stores_after_step turn x) ×
    AreFollowed (stores_after_step turn x) turns

-- Whatever is called and slid in whatever order, each turn leads from the meaning of the stores
-- before it to that of the stores after it by its rule.
abbrev pub TurnsFollowRules : Type 0
TurnsFollowRules = (x : Stores) (turns : List FlexOrSlide) → AreStores x → AreAllowed x.pending turns →
    AreFollowed x turns

-- The memory of a machine with its areas, its modules and its flex store is such stores.
abbrev pub MachinesHaveStores : Type 0
MachinesHaveStores =
    (m : AddressMap) (l : AreaTable) (modules : List Module) (pending : List Image) (f : Flex)
    → IsModuleState (module_state_of m l modules) pending → HasFlex m f → AreModules modules → length
    pending ≤ 1
    → AreStores (record { module_state = module_state_of m l modules; flex = f; pending = pending })
