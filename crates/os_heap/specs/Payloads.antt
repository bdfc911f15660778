-- Where a byte lies among the heaps: in none, in what a live block holds, or in a heap's own words and free room (RISC OS 3 Programmer's Reference
-- Manual, "OS_Heap", the internal format).
use Rattle.os_heap_words.specs.MemoryMap.{module_area_start}
use Rattle.std.specs.Prelude.{ℕ, ◌+◌, ◌-◌, Bool, true, false, Option, Some, None, List, [], ◌∷◌, if◌then◌else◌}
use Rattle.os_heap_words.specs.Bytes.{in_range}
use Rattle.os_heap_words.specs.Items.{total_of}
use Rattle.os_heap_words.specs.Item.{Item}
use Rattle.os_heap_words.specs.Item.TheVariants.{Live, Free}
use Rattle.os_heap_words.specs.lists.Heap.{HeapList}
use Rattle.os_heap.specs.Store.{Store, find_heap}
use Rattle.os_heap.specs.declared.payload.Payload.{Payload}
use Rattle.os_heap.specs.declared.payload.Payload.TheVariants.{Outside, Inside, Other}

-- does the item at `at` hold the byte at `a` for the guest? The length word of a block is not among the bytes that it holds, and free room holds none.
abbrev pub holds_byte : ℕ → Item → ℕ → Bool
holds_byte at (Live t) a = in_range (at + 4) (t - 4) a
holds_byte at (Free t) a = false

-- The live block of a heap that holds the byte at `a`, where the first item is at `at`: the address of the first byte that it holds, and how many.
abbrev pub payload_from : ℕ → List Item → ℕ → Payload
payload_from at [] a = Other
payload_from at (item ∷ items) a =
    if holds_byte at item a then Inside (at + 4) (total_of item - 4)
    else payload_from (at + total_of item) items a

abbrev pub payload_in : HeapList → ℕ → Payload
payload_in h a = payload_from (h.start + 16) h.items a

-- The same of a heap that is found, whatever lies in its blocks: a heap that lies in one of them has words there, and is passed over.
abbrev pub payload_by : Option HeapList → ℕ → Payload
payload_by None a = Outside
payload_by (Some h) a = if in_range h.start h.end a then payload_in h a else Outside

abbrev pub area_payload : Store → ℕ → Payload
area_payload s a = payload_by (find_heap module_area_start s.heaps) a

-- Where heaps lie round each other, all of them must hold the byte in a live block; the last of these is shown.
abbrev pub payload_or : Payload → Payload → Payload
payload_or Other inner = Other
payload_or Outside inner = inner
payload_or (Inside at len) Outside = Inside at len
payload_or (Inside at len) (Inside inner inner_len) = Inside inner inner_len
payload_or (Inside at len) Other = Other

abbrev pub payload_of : List HeapList → ℕ → Payload
payload_of [] a = Outside
payload_of (h ∷ hs) a = if in_range h.start h.end a then payload_or (payload_in h a) (payload_of hs a)
    else payload_of hs a

-- in a heap, but in nothing that a live block holds
abbrev pub is_other : Payload → Bool
is_other Other = true
is_other Outside = false
is_other (Inside at len) = false
