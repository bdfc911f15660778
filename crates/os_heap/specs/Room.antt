-- How far a heap's items reach, which says how much room there is behind them.
use Rattle.std.specs.Prelude.{ℕ, ◌+◌, Option, Some, None}
use Rattle.os_heap_words.specs.Items.{size_of}
use Rattle.os_heap_words.specs.lists.Heap.{HeapList}
use Rattle.os_heap.specs.Store.{Store, find_heap}

-- the byte behind the last item, counted from the heap's start; 0 where there is no heap
abbrev pub heap_base_of : Option HeapList → ℕ
heap_base_of None = 0
heap_base_of (Some h) = 16 + size_of h.items

unfoldable pub base_offset : Store → ℕ → ℕ
base_offset s heap = heap_base_of (find_heap heap s.heaps)
