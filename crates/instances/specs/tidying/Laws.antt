-- Laws of every tidied module area, said in other words than its definition.
use Rattle.instances_table.specs.MemoryMap.{module_area_start}
use Rattle.std.specs.Prelude.{ℕ, ◌≡◌, ◌<◌, ◌+◌, ◌-◌, true, List, [], Option, Some, None}
use Rattle.rma.specs.Items.{size_of}
use Rattle.rma.specs.Moves.{moved_to}
use Rattle.rma.specs.BlockMove.{BlockMove}
use Rattle.rma.specs.lists.Counts.{free_count}
use Rattle.rma.specs.lists.Heap.{HeapList}
use Rattle.rma.specs.lists.Lists.{live_total}
use Rattle.rma.specs.OsHeapCalls.{OfHeap}
use Rattle.rma.specs.Store.{Store, find_heap}
use Rattle.rma.specs.heap_slide.Laws.{AreMovable}
use Rattle.rma.specs.heap_slide.Slide.{is_listed}
use Rattle.rma.specs.Calls.{rma_described}
use Rattle.instances_table.specs.Changes.{is_slot_held}
use Rattle.instances_table.specs.ModuleArea.{is_in_module_area}
use Rattle.instances_table.specs.Modules.{AreModules}
use Rattle.instances.specs.module_state.Sound.{IsModuleState}
use Rattle.instances.specs.module_state.ModuleState.{ModuleState, private_word}
use Rattle.instances.specs.tidying.Movable.{movable_blocks}
use Rattle.instances.specs.tidying.Slid.{moves_in, private_words_of, module_state_slid}

-- the blocks that move, and where they go
abbrev pub tidy_moves_in : ℕ → ModuleState → Option HeapList → List BlockMove
tidy_moves_in return_address w None = []
tidy_moves_in return_address w (Some h) = moves_in h (movable_blocks w.area_store.store w.modules
    (private_words_of w) return_address h)

abbrev pub tidy_moves : ℕ → ModuleState → List BlockMove
tidy_moves return_address w = tidy_moves_in return_address w
    (find_heap module_area_start w.area_store.store.heaps)

-- a live block of the module area
abbrev pub IsLive : Store → ℕ → ℕ → Type 0
IsLive s block total = OfHeap (λ h. live_total block (h.start + 16) h.items ≡ Some total)
    (find_heap module_area_start s.heaps)

-- Each live block of the module area is live afterwards too, where it went, and holds there what it
-- held: the images of modules, and the blocks that private words name.
abbrev pub TidyKeepsBlocks : Type 0
TidyKeepsBlocks = (return_address : ℕ) (w : ModuleState) → IsModuleState w [] → (block total : ℕ) →
    IsLive w.area_store.store block total
    → IsLive (module_state_slid return_address w).area_store.store
    (moved_to (tidy_moves return_address w) block) total
    × ((k : ℕ) → k + 4 < total
    → (module_state_slid return_address w).area_store.store.bytes.at
    (moved_to (tidy_moves return_address w) block + k)
    ≡ w.area_store.store.bytes.at (block + k))

-- Where no live block is fixed the module area has no free item afterwards, and the largest block
-- that can be claimed is all that is free, without its length word.
abbrev pub TidyJoinsRoom : Type 0
TidyJoinsRoom = (return_address : ℕ) (w : ModuleState) (h g : HeapList) → IsModuleState w [] →
    find_heap module_area_start w.area_store.store.heaps ≡ Some h
    → AreMovable (is_listed (movable_blocks w.area_store.store w.modules (private_words_of w) return_address
    h))
    (h.start + 16) h.items
    → find_heap module_area_start (module_state_slid return_address w).area_store.store.heaps ≡ Some g →
    (room : ℕ) →
    room ≡ g.end - (16 + size_of g.items)
    → (free_count g.items ≡ 0) × (rma_described (module_state_slid return_address w).area_store.store ≡
    (room - 4, room))

-- what memory holds are bytes
abbrev pub AreBytes : (ℕ → ℕ) → Type 0
AreBytes bytes = (a : ℕ) → bytes a < 256

-- Each private word of an instance names what it named, where that went.
abbrev pub TidyKeepsNames : Type 0
TidyKeepsNames = (return_address : ℕ) (w : ModuleState) → IsModuleState w [] → AreModules w.modules →
    AreBytes w.area_store.store.bytes.at
    → (slot : ℕ) → is_slot_held slot w.modules ≡ true
    → private_word (module_state_slid return_address w).area_store slot
    ≡ moved_to (tidy_moves return_address w) (private_word w.area_store slot)

-- A block that lay in the module area lies there afterwards, and what lay elsewhere does so still:
-- an image keeps its side.
abbrev pub TidyKeepsSides : Type 0
TidyKeepsSides = (return_address : ℕ) (w : ModuleState) → IsModuleState w [] → (block : ℕ)
    → is_in_module_area (moved_to (tidy_moves return_address w) block) ≡ is_in_module_area block
