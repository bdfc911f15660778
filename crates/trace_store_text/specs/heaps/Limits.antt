-- A heap's limits: its base, where its items end, and its end, both in bytes from its start (RISC OS 3
-- Programmer's Reference Manual, "OS_Heap", the internal format).
use Rattle.std.specs.Prelude.{ℕ, ◌+◌, ◌/◌, nat_lt, Option, Some, None, if◌then◌else◌}
use Rattle.std.specs.Option.{option_map}
use Rattle.address_map.specs.Items.{size_of}
use Rattle.store_copies.specs.Store.{Store, find_heap}
use Rattle.store_copies.specs.Heap.{HeapList}
use Rattle.store_copies.specs.declared.changes.PageRange.{PageRange}
use Rattle.trace_store_text.specs.declared.heaps.limits.HeapLimits.{HeapLimits}

abbrev pub limits_of_heap : HeapList → HeapLimits
limits_of_heap h = record { base = 16 + size_of h.items; end = h.end }

-- those of the heap that starts at an address, if one does
unfoldable pub limits_in : Store → ℕ → Option HeapLimits
limits_in s heap = option_map limits_of_heap (find_heap heap s.heaps)

-- the pages from an address up to the end of so many bytes, and that in which they end
abbrev pub end_shown : Option HeapLimits → ℕ
end_shown (Some limits) = limits.end
end_shown None = 0

abbrev pub Pages : Type 0
Pages = PageRange

abbrev pub pages_between : ℕ → ℕ → ℕ → PageRange
pages_between heap old new =
    record { first = heap / 4096; end = (heap + (if nat_lt old new then new else old)) / 4096 + 1 }

-- those that the heap lies in which starts there, before a call or after it
unfoldable pub heap_pages : Store → Store → ℕ → PageRange
heap_pages s s' heap = pages_between heap (end_shown (limits_in s heap)) (end_shown (limits_in s' heap))
