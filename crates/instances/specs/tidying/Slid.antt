-- The module area after it was tidied: its heap slid, the private words that named blocks that
-- moved, and the images of modules, where they went (RISC OS 3 Programmer's Reference Manual,
-- "OS_Module", reason 8).
use Rattle.instances_table.specs.MemoryMap.{module_area_start}
use Rattle.std.specs.Prelude.{ℕ, ◌+◌, List, [], ◌∷◌, map, Option, Some, None}
use Rattle.rma.specs.Bytes.{word_at}
use Rattle.rma.specs.Moves.{moved_to}
use Rattle.rma.specs.BlockMove.{BlockMove}
use Rattle.rma.specs.lists.Heap.{HeapList}
use Rattle.rma.specs.Store.{find_heap}
use Rattle.rma.specs.heap_slide.Slide.{is_listed, moves_of, with_slid}
use Rattle.rma.specs.Ground.{AreaStore}
use Rattle.rma.specs.Calls.{with_store}
use Rattle.instances_table.specs.plans.Code.{private_of}
use Rattle.instances_table.specs.Changes.{with_image_at}
use Rattle.instances_table.specs.Modules.{Module, slots_of}
use Rattle.instances.specs.module_state.ModuleState.{ModuleState, private_word, with_private}
use Rattle.instances.specs.tidying.Movable.{movable_blocks}

-- the private words of some slots, and of all instances
abbrev pub private_words_at : (ℕ → ℕ) → List ℕ → List ℕ
private_words_at bytes slots = map (λ slot. word_at bytes (private_of slot)) slots

abbrev pub private_words_of : ModuleState → List ℕ
private_words_of w = private_words_at w.area_store.store.bytes.at (slots_of w.modules)

-- The private words of some slots, one after another: one that named a block that moved names it
-- where it went, and all others stay.
abbrev pub words_moved : List BlockMove → List ℕ → AreaStore → AreaStore
words_moved moves [] e = e
words_moved moves (slot ∷ slots) e = words_moved moves slots
    (with_private e slot (moved_to moves (private_word e slot)))

-- an image where it went, or where it was, if it didn't move
abbrev pub image_moved : List BlockMove → Module → Module
image_moved moves m = with_image_at (moved_to moves m.image.at) m

-- the blocks of a heap that moved
abbrev pub moves_in : HeapList → List ℕ → List BlockMove
moves_in h movable = moves_of (is_listed movable) (h.start + 16) (h.start + 16) h.items

abbrev pub module_state_moved : ModuleState → HeapList → List ℕ → ModuleState
module_state_moved w h movable = record {
  area_store = words_moved (moves_in h movable) (slots_of w.modules)
      (with_store w.area_store (with_slid w.area_store.store h movable));
  modules = map (image_moved (moves_in h movable)) w.modules;
}

-- Where no heap is at the module area's place nothing moves.
abbrev pub module_state_slid_in : ℕ → ModuleState → Option HeapList → ModuleState
module_state_slid_in return_address w None = w
module_state_slid_in return_address w (Some h) =
    module_state_moved w h (movable_blocks w.area_store.store w.modules (private_words_of w) return_address h)

unfoldable pub module_state_slid : ℕ → ModuleState → ModuleState
module_state_slid return_address w = module_state_slid_in return_address w
    (find_heap module_area_start w.area_store.store.heaps)
