-- What holds of the module area's heap in the midst of a step too, when it isn't known that the
-- store is sound; and what a change within the module area and the system pages leaves of all else
-- (RISC OS 3 Programmer's Reference Manual, "OS_Heap" and "The relocatable module area"; the
-- places, and that a heap may lie in a block of the module area, are this project's own).
use Rattle.profile.specs.MemoryMap.{module_area_start}
use Rattle.std.specs.Prelude.{ℕ, ◌≡◌, ◌≢◌, ◌≤◌, ◌<◌, ◌+◌, Bool, true, false, Some}
use Rattle.address_map.specs.Bytes.{Bytes, in_range}
use Rattle.address_map.specs.Items.{size_of}
use Rattle.os_heap_words.specs.lists.Heap.{AreTotals, HeapList}
use Rattle.os_heap.specs.Nesting.{IsWithin}
use Rattle.os_heap.specs.Store.{StandAreas, Store, find_heap}
use Rattle.law_machine.specs.heap_calls.Laws.{IsNotForgotten}

-- is a byte in the range that the module area may have, or in the system pages after it?
abbrev pub is_module_byte : ℕ → Bool
is_module_byte a = in_range module_area_start 0x403000 a

-- A store is fit for calls on the module area: that area's heap is there and ends at `limit`,
-- counted from its start. Its items have lengths of items, and room up to there. No other place has
-- a module area.
pub record IsFitStore (limit : ℕ) (s : Store) : Type 0 where
  pub heap : HeapList
  pub found : find_heap module_area_start s.heaps ≡ Some heap
  pub totals : AreTotals heap.items
  pub inside : 16 + size_of heap.items ≤ limit
  pub end : heap.end ≡ limit
  pub room : limit ≤ 0x400000
  pub place : StandAreas s.heaps

-- A heap that a guest made lies in a live block of the module area.
pub record LiesInArea (s : Store) (h : HeapList) : Type 0 where
  pub area : HeapList
  pub round : find_heap module_area_start s.heaps ≡ Some area
  pub found : find_heap h.start s.heaps ≡ Some h
  pub within : IsWithin area h

-- It lies in one after a change too, and no byte of it changed.
pub record StaysInArea (h : HeapList) (s t : Store) : Type 0 where
  pub lies : LiesInArea t h
  pub bytes : (a : ℕ) → in_range h.start h.end a ≡ true → t.bytes.at a ≡ s.bytes.at a

-- So does each heap that lies there, unless it was forgotten with the block in which it lay, or
-- with a part of that.
abbrev pub KeepsInner : Store → Store → Type 0
KeepsInner s t =
    (h : HeapList) → 0 < h.end → LiesInArea s h → IsNotForgotten t h.start → StaysInArea h s t

-- No byte elsewhere changes, and no anchor. No heap that starts elsewhere changes or is forgotten.
-- Of those that start in the module area none changes but that of the area itself, and those that
-- are forgotten; and of a heap that lies in a block there no byte changes either.
pub record KeepsOutside (s t : Store) : Type 0 where
  pub bytes : (a : ℕ) → is_module_byte a ≡ false → t.bytes.at a ≡ s.bytes.at a
  pub heaps : (start : ℕ) → start ≢ module_area_start → (is_module_byte start ≡ true → IsNotForgotten t start)
      → find_heap start t.heaps ≡ find_heap start s.heaps
  pub anchors : (a : ℕ) → t.anchor a ≡ s.anchor a
  pub inner : KeepsInner s t

-- a step within a call that keeps both
pub record StaysFit (limit : ℕ) (s t : Store) : Type 0 where
  pub fit : IsFitStore limit t
  pub outside : KeepsOutside s t

-- Bytes of the module area and the system pages are written, but none of a heap that lies in a
-- block there.
pub record WritesThere (s : Store) (c : Bytes) : Type 0 where
  pub outside : (a : ℕ) → is_module_byte a ≡ false → c.at a ≡ s.bytes.at a
  pub inner : (h : HeapList) (a : ℕ) → LiesInArea s h → in_range h.start h.end a ≡ true →
      c.at a ≡ s.bytes.at a
