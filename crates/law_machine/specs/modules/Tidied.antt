-- Which blocks of the module area a tidy moves: all that may move, each shown by what names it and
-- what it holds (RISC OS 3 Programmer's Reference Manual, "OS_Module", reason 8; which blocks may
-- move is this project's own).
use Rattle.profile.specs.MemoryMap.{module_area_start}
use Rattle.std.specs.Prelude.{ℕ, ◌≡◌, ◌⊎◌, ◌+◌, ◌-◌, true, false, List, [], Some, slice_get}
use Rattle.address_map.specs.Bytes.{in_range}
use Rattle.address_map.specs.Moves.{moved_to}
use Rattle.address_map.specs.declared.item.Item.{Item}
use Rattle.os_heap_words.specs.lists.Heap.{HeapList}
use Rattle.os_heap_words.specs.lists.Lists.{live_total}
use Rattle.os_heap.specs.Forgetting.{holds_heap}
use Rattle.os_heap.specs.Store.{find_heap}
use Rattle.instances_table.specs.Changes.{is_slot_held}
use Rattle.instances_table.specs.Modules.{AreModules, Module}
use Rattle.instances.specs.module_state.Sound.{IsModuleState}
use Rattle.instances.specs.module_state.ModuleState.{ModuleState, private_word}
use Rattle.instances.specs.tidying.Laws.{tidy_moves}
use Rattle.instances.specs.tidying.Slid.{module_state_slid}

-- a module's image stands there
pub record IsImageOf (modules : List Module) (block : ℕ) : Type 0 where
  pub number : ℕ
  pub owner : Module
  pub there : slice_get modules number ≡ Some owner
  pub stands : owner.image.at ≡ block

-- The private word of one instance names it, and that of no other.
pub record IsNamedAlone (w : ModuleState) (block : ℕ) : Type 0 where
  pub slot : ℕ
  pub held : is_slot_held slot w.modules ≡ true
  pub names : private_word w.area_store slot ≡ block
  pub alone : (other : ℕ) → is_slot_held other w.modules ≡ true → private_word w.area_store other ≡ block →
      other ≡ slot

-- A block of `total` bytes may move: its length word, which lies before its first byte, counts with
-- what it holds.
pub record IsMovable (w : ModuleState) (return_address block total : ℕ) : Type 0 where
  pub named : IsImageOf w.modules block ⊎ IsNamedAlone w block
  pub anchors : (a : ℕ) → in_range (block - 4) total a ≡ true → w.area_store.store.anchor a ≡ false
  pub heaps : holds_heap w.area_store.store.heaps (block - 4) total ≡ false
  pub code : in_range (block - 4) total return_address ≡ false

-- A block ends where another one begins, or it has the first place, which is at `first`.
pub record EndsBefore (first : ℕ) (items : List Item) (block : ℕ) : Type 0 where
  pub before : ℕ
  pub total : ℕ
  pub live : live_total before first items ≡ Some total
  pub ends : before + total ≡ block

abbrev pub StandsBehind : ℕ → List Item → ℕ → Type 0
StandsBehind first items block = (block ≡ first + 4) ⊎ EndsBefore first items block

-- Where a block that may move went, by the moves of the tidy, nothing is free below it.
abbrev pub TidyMovesAll : Type 0
TidyMovesAll = (return_address : ℕ) (w : ModuleState) (h g : HeapList) (block total : ℕ) → IsModuleState w
    [] →
    AreModules w.modules → find_heap module_area_start w.area_store.store.heaps ≡ Some h
    → find_heap module_area_start (module_state_slid return_address w).area_store.store.heaps ≡ Some g
    → live_total block (h.start + 16) h.items ≡ Some total → IsMovable w return_address block total
    → StandsBehind (g.start + 16) g.items (moved_to (tidy_moves return_address w) block)

-- A block that may not move goes nowhere.
abbrev pub TidyFixes : Type 0
TidyFixes = (return_address : ℕ) (w : ModuleState) (h : HeapList) (block total : ℕ) → IsModuleState w [] →
    AreModules w.modules → find_heap module_area_start w.area_store.store.heaps ≡ Some h
    → live_total block (h.start + 16) h.items ≡ Some total → (IsMovable w return_address block total → ⊥)
    → moved_to (tidy_moves return_address w) block ≡ block
