-- Which heaps are forgotten with a block that is given up, or with what is cut off one: those of which a byte is freed, and the heaps that lie in
-- these. A heap that is forgotten is recorded no more, and no byte of it is changed (that a heap may lie in a block, and goes with its room, is this
-- project's own).
use Rattle.std.specs.Prelude.{ℕ, Bool, not, min, ◌&&◌, ◌+◌, ◌-◌, nat_lt, List, [], ◌∷◌, if◌then◌else◌}
use Rattle.std.specs.List.{filter, list_any}
use Rattle.os_heap_words.specs.Bytes.{in_range}
use Rattle.os_heap_words.specs.lists.Heap.{HeapList}
use Rattle.os_heap.specs.Nesting.{is_module_area}
use Rattle.os_heap.specs.Store.{Store}

-- does a guest's heap start among the `len` bytes from `at` on?
abbrev pub starts_in : ℕ → ℕ → HeapList → Bool
starts_in at len h = not (is_module_area h.kind) && in_range at len h.start

abbrev pub holds_heap : List HeapList → ℕ → ℕ → Bool
holds_heap hs at len = list_any (starts_in at len) hs

-- Of the `len` bytes that a block holds those from `from` on are freed: the least start of a heap there that has one of these, or `from`. What
-- starts from there on in the block is forgotten, since a heap that starts in another ends in it.
abbrev pub lowest_lost : ℕ → ℕ → ℕ → List HeapList → ℕ
lowest_lost block len from [] = from
lowest_lost block len from (h ∷ hs) =
    let rest : ℕ = lowest_lost block len from hs in
    if starts_in block len h && nat_lt from (h.start + h.end) then min h.start rest else rest

abbrev pub without_heaps_in : ℕ → ℕ → List HeapList → List HeapList
without_heaps_in at len hs = filter (λ h. not (starts_in at len h)) hs

-- the store after the bytes from `from` on, of those that the block at `block` with its `total` bytes holds, were given up
abbrev pub store_after_forget : Store → ℕ → ℕ → ℕ → Store
store_after_forget s block total from =
    let low : ℕ = lowest_lost block (total - 4) from s.heaps in
    record s { heaps = without_heaps_in low (block - 4 + total - low) s.heaps }
