-- Which bytes of the whole of memory the actions of plans write: private words, the environment
-- text, the words of the module area's heap, and the blocks that a tidy moves (RISC OS 3
-- Programmer's Reference Manual, "Modules" and "OS_Module"; the places of the private words and of
-- the text are this project's own).
use Rattle.profile.specs.MemoryMap.{environment_text_start}
use Rattle.std.specs.Prelude.{ℕ, ◌≡◌, ◌≢◌, ◌≤◌, ◌+◌, ◌-◌, ◌⊎◌, true, length, Option, Some, None, List, [], ◌∷◌}
use Rattle.address_map.specs.Bytes.{in_range}
use Rattle.address_map.specs.Moves.{moved_to}
use Rattle.dynamic_areas.specs.Ground.{AreaStore}
use Rattle.instances_table.specs.plans.Code.{private_of}
use Rattle.instances_table.specs.plans.Carrying.{carry_of_plan}
use Rattle.instances_table.specs.plans.Plans.{Plan}
use Rattle.instances_table.specs.declared.plans.action.PlanAction.{PlanAction}
use Rattle.instances_table.specs.declared.plans.action.PlanAction.TheVariants as act
use Rattle.instances_table.specs.declared.plans.code.Code.{Code}
use Rattle.instances_table.specs.declared.plans.given.Given.{Given}
use Rattle.instances_table.specs.plans.Doable.{is_used}
use Rattle.instances_table.specs.Changes.{is_slot_held}
use Rattle.instances_table.specs.Modules.{AreModules, slots_of}
use Rattle.instances.specs.actions.Actions.{code_of, module_state_after_action}
use Rattle.instances.specs.tidying.Laws.{AreBytes, IsLive, tidy_moves}
use Rattle.instances.specs.tidying.Slid.{module_state_slid}
use Rattle.instances.specs.Turns.{module_doing}
use Rattle.instances.specs.module_state.Sound.{IsModuleState}
use Rattle.instances.specs.module_state.ModuleState.{ModuleState, private_freed, private_word}
use Rattle.law_machine.specs.heap_frame.PlanLaws.{AreActionsBelow, IsFitModuleState}
use Rattle.law_machine.specs.other_bytes.AreaWrites.{IsAreaWord}

-- a byte of the private word of a slot, and of a text, with the zero after it, in the environment
-- text's place
abbrev pub IsPrivateByte : ℕ → ℕ → Type 0
IsPrivateByte slot a = in_range (private_of slot) 4 a ≡ true

abbrev pub IsTextByte : List ℕ → ℕ → Type 0
IsTextByte text a = in_range environment_text_start (length text + 1) a ≡ true

-- The block that a private word names is given back, and the word is 0 then.
abbrev pub IsOfPrivateBlock : AreaStore → ℕ → ℕ → Type 0
IsOfPrivateBlock e slot a = IsAreaWord (private_freed e slot).store a ⊎ IsPrivateByte slot a

-- A live block of the module area was moved in a tidy, and the byte is of its length word, or one
-- of those that it holds, where it went.
pub record IsOfSlidBlock (return_address : ℕ) (w : ModuleState) (a : ℕ) : Type 0 where
  pub block : ℕ
  pub total : ℕ
  pub live : IsLive w.area_store.store block total
  pub moves : moved_to (tidy_moves return_address w) block ≢ block
  pub byte : in_range (moved_to (tidy_moves return_address w) block - 4) total a ≡ true

-- a private word of an instance, which may have named a block that moved
pub record IsOfHeldSlot (w : ModuleState) (a : ℕ) : Type 0 where
  pub slot : ℕ
  pub held : is_used slot (slots_of w.modules) ≡ true
  pub byte : IsPrivateByte slot a

-- The bytes that an action writes in a module state, which leaves another. A removal is two releases, one
-- after the other: of the block that the private word names, and with the last instance of the
-- image's.
abbrev pub IsWrittenByAction : Given → ModuleState → ModuleState → PlanAction → ℕ → Type 0
IsWrittenByAction g w v (act.Finalise slot fatal) a = ⊥
IsWrittenByAction g w v (act.Remove slot) a = IsOfPrivateBlock w.area_store slot a ⊎ IsAreaWord
    v.area_store.store a
IsWrittenByAction g w v (act.FreePrivate slot) a = IsOfPrivateBlock w.area_store slot a
IsWrittenByAction g w v (act.Insert slot) a = IsPrivateByte slot a
IsWrittenByAction g w v (act.Instantiate slot) a = IsPrivateByte slot a
IsWrittenByAction g w v act.GiveUp a = IsAreaWord v.area_store.store a
IsWrittenByAction g w v act.Slide a = IsAreaWord v.area_store.store a
    ⊎ (IsOfSlidBlock g.return_address w a ⊎ IsOfHeldSlot w a)
IsWrittenByAction g w v (act.Initialise slot) a = IsTextByte g.text.items a

-- One of some actions writes the byte, each of which finds the module state that those before it left.
-- They are done up to the first that has code.
abbrev pub if_no_code : Option Code → Type 0 → Type 0
if_no_code (Some code) later = ⊥
if_no_code None later = later

abbrev pub IsWrittenByActions : Given → ModuleState → List PlanAction → ℕ → Type 0
IsWrittenByActions g w [] a = ⊥
IsWrittenByActions g w (one ∷ others) a =
    (let v : ModuleState = module_state_after_action module_state_slid g w one in
    IsWrittenByAction g w v one a ⊎ if_no_code (code_of w one) (IsWrittenByActions g v others a))

-- So a removal leaves what the blocks held that it gives back, a tidy what lies in the gaps behind
-- blocks that it moves, and a text what follows its zero.
abbrev pub ActionsKeepOthers : Type 0
ActionsKeepOthers =
    (w : ModuleState) (g : Given) (one : PlanAction) (a : ℕ) → IsFitModuleState w
    → (let v : ModuleState = module_state_after_action module_state_slid g w one in
    (v.area_store.store.bytes.at a ≡ w.area_store.store.bytes.at a) ⊎ IsWrittenByAction g w v one a)

-- a plan that is carried on to its next code, or to its end
abbrev pub PlansKeepOthers : Type 0
PlansKeepOthers =
    (w : ModuleState) (p : Plan) (a : ℕ) → IsFitModuleState w → AreActionsBelow p.actions
    → length p.given.text.items ≤ 255
    → ((carry_of_plan module_doing w p).module_state.area_store.store.bytes.at a ≡
    w.area_store.store.bytes.at a)
    ⊎ IsWrittenByActions p.given w p.actions a

-- A private word of an instance that names no block which moves in a tidy stays.
abbrev pub TidiesKeepWords : Type 0
TidiesKeepWords =
    (return_address : ℕ) (w : ModuleState) (slot a : ℕ) → IsModuleState w [] → AreModules w.modules
    → AreBytes w.area_store.store.bytes.at → is_slot_held slot w.modules ≡ true
    → moved_to (tidy_moves return_address w) (private_word w.area_store slot) ≡ private_word w.area_store slot
    → IsPrivateByte slot a
    → (module_state_slid return_address w).area_store.store.bytes.at a ≡ w.area_store.store.bytes.at a
