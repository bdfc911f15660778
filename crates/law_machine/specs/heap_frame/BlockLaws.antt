-- Blocks of the module area, over the calls that claim, over those that give back, and over the
-- actions of plans (RISC OS 3 Programmer's Reference Manual, "OS_Module", reasons 6 and 7: a block
-- is its claimer's until it is given back).
use Rattle.profile.specs.MemoryMap.{module_area_start}
use Rattle.std.specs.Prelude.{ℕ, ◌≡◌, ◌≤◌, ◌+◌, ◌-◌, true, length, Option, Some, None, Ok, List, [], ◌∷◌}
use Rattle.address_map.specs.Bytes.{in_range}
use Rattle.os_heap_words.specs.lists.Heap.{HeapList}
use Rattle.os_heap_words.specs.lists.Lists.{live_total}
use Rattle.os_heap.specs.Store.{Store, find_heap}
use Rattle.dynamic_areas.specs.Ground.{AreaStore}
use Rattle.rma.specs.Calls.{rma_claimed, rma_freed}
use Rattle.rma.specs.NewImages.{image_copied, image_made}
use Rattle.instances_table.specs.declared.plans.action.PlanAction.{PlanAction}
use Rattle.instances_table.specs.declared.plans.action.PlanAction.TheVariants as act
use Rattle.instances_table.specs.plans.Carrying.{carry_of_plan}
use Rattle.instances_table.specs.plans.Plans.{Plan}
use Rattle.instances.specs.module_state.ModuleState.{ModuleState}
use Rattle.instances.specs.Turns.{module_doing}
use Rattle.law_machine.specs.heap_frame.FitAreaStores.{IsFitAreaStore}
use Rattle.law_machine.specs.heap_frame.PlanLaws.{AreActionsBelow, IsFitModuleState}

abbrev pub total_in : ℕ → Option HeapList → Option ℕ
total_in block None = None
total_in block (Some h) = live_total block (h.start + 16) h.items

-- how many bytes the live block of the module area has whose bytes begin at an address, its length
-- word among them
abbrev pub block_total : Store → ℕ → Option ℕ
block_total s block = total_in block (find_heap module_area_start s.heaps)

-- what a block of so many bytes holds is what it was
abbrev pub HoldsSame : Store → Store → ℕ → ℕ → Type 0
HoldsSame s t block total = (a : ℕ) → in_range block (total - 4) a ≡ true → t.bytes.at a ≡ s.bytes.at a

-- each block that was live is so still, and holds what it held
abbrev pub StayLive : Store → Store → Type 0
StayLive s t =
    (block total : ℕ) → block_total s block ≡ Some total
    → (block_total t block ≡ Some total) × HoldsSame s t block total

-- each block that is live was so before, and holds what it held
abbrev pub WereLive : Store → Store → Type 0
WereLive s t =
    (block total : ℕ) → block_total t block ≡ Some total
    → (block_total s block ≡ Some total) × HoldsSame s t block total

-- A claim leaves all blocks that were live, whatever the area grows by, and a release brings none.
pub record BlockCallKeeps (d e : AreaStore) : Type 0 where
  pub claim : (size block : ℕ) → rma_claimed d size ≡ Ok (e, block) → StayLive d.store e.store
  pub make_image : (image : List ℕ) (at : ℕ) → image_made d image ≡ Ok (e, at) → StayLive d.store e.store
  pub copy_image : (from len at : ℕ) → image_copied d from len ≡ Ok (e, at) → StayLive d.store e.store
  pub free : (block : ℕ) → rma_freed d block ≡ Ok (e, tt) → WereLive d.store e.store

abbrev pub BlockCallsKeep : Type 0
BlockCallsKeep = (d e : AreaStore) → IsFitAreaStore d → BlockCallKeeps d e

-- nothing slides
abbrev pub HaveNoSlide : List PlanAction → Type 0
HaveNoSlide [] = Unit {0}
HaveNoSlide (act.Slide ∷ actions) = ⊥
HaveNoSlide (other ∷ actions) = HaveNoSlide actions

-- A plan in which nothing slides brings no block, and each that is live after it holds what it
-- held.
abbrev pub PlansKeepBlocks : Type 0
PlansKeepBlocks =
    (w : ModuleState) (p : Plan) → IsFitModuleState w → AreActionsBelow p.actions → length
    p.given.text.items ≤ 255
    → HaveNoSlide p.actions → WereLive w.area_store.store
    (carry_of_plan module_doing w p).module_state.area_store.store
