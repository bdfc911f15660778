-- The heap calls. A call changes the list of one heap, and of memory only the words that the new list spells; every other byte keeps its value.
-- Refusals come in the order of their numbers (RISC OS 3 Programmer's Reference Manual, "OS_Heap", reasons 0 to 6; the numbers, the limits, this
-- order, and that a block whose size falls to 0 or below is freed, are this project's own).
use Rattle.os_heap_words.specs.MemoryMap.{module_area_start}
use Rattle.std.specs.Prelude.{ℕ, ◌≡◌, Bool, true, false, not, ◌+◌, ◌-◌, ◌%◌, ◌==◌, ◌&&◌, nat_le, nat_lt, Option, Some, None, ok_or, option_map, Result, Ok, Err, List, [], ◌∷◌, ◌++◌, if◌then◌else◌}
use Rattle.os_heap_words.specs.Outcome.{bind}
use Rattle.os_heap_words.specs.ErrorNumber.{ErrorNumber}
use Rattle.os_heap_words.specs.ErrorNumber.TheVariants.{HeapBadDesc, HeapBadRegion, HeapOverlaps, HeapTableFull, HeapNotABlock, HeapHoldsAnchor, HeapNoRoom, HeapBadShrink, BlockHoldsHeap}
use Rattle.os_heap_words.specs.Item.{Item}
use Rattle.os_heap_words.specs.Kind.{Kind}
use Rattle.os_heap_words.specs.Kind.TheVariants as kind
use Rattle.os_heap_words.specs.Region.{Region}
use Rattle.os_heap_words.specs.Bytes.{with_moved}
use Rattle.os_heap_words.specs.Items.{size_of}
use Rattle.os_heap_words.specs.Records.{anchor_among}
use Rattle.os_heap_words.specs.lists.Heap.{HeapList, with_heap}
use Rattle.os_heap_words.specs.lists.Lists.{round_up_8, total_for, claim_in_items, items_after_release, changed_by, live_total, resized_in_place}
use Rattle.os_heap_words.specs.lists.Counts.{all_free, largest_block}
use Rattle.os_heap.specs.Forgetting.{store_after_forget, holds_heap}
use Rattle.os_heap.specs.Store.{Store, find_heap, guest_count, has_image}
use Rattle.os_heap.specs.Ranges.{is_heap_region, overlaps, overgrows, MayEnd}

abbrev pub heap_at : Store → ℕ → Result HeapList ErrorNumber
heap_at s heap = ok_or (find_heap heap s.heaps) HeapBadDesc

-- a block of the guest's: where a module image is recorded there is none
abbrev pub unless_image : {A : Type 0} → Bool → Option A → Option A
unless_image true block = None
unless_image false block = block

abbrev pub guests_total : List Region → ℕ → List Item → ℕ → Result ℕ ErrorNumber
guests_total others start items block = ok_or (unless_image (has_image block others)
    (live_total block (start + 16) items)) HeapNotABlock

-- the heaps after the one at `start` got another list, or another end
abbrev pub heaps_with_items : ℕ → List Item → List HeapList → List HeapList
heaps_with_items start items [] = []
heaps_with_items start items (h ∷ hs) =
    (if h.start == start then record { kind = h.kind; start = h.start; end = h.end; items = items } else h)
    ∷ heaps_with_items start items hs

abbrev pub with_end : ℕ → ℕ → List HeapList → List HeapList
with_end start end [] = []
with_end start end (h ∷ hs) =
    (if h.start == start then record { kind = h.kind; start = h.start; end = end; items = h.items } else h)
    ∷ with_end start end hs

-- the store after a heap got another list, or another end
abbrev pub store_holding : Store → HeapList → List Item → Store
store_holding s h items = record s {
  bytes = record { mapped = s.bytes.mapped; at = with_heap s.bytes.at h.start h.end items };
  heaps = heaps_with_items h.start items s.heaps;
}

abbrev pub ending : Store → HeapList → ℕ → Store
ending s h end = record s {
  bytes = record { mapped = s.bytes.mapped; at = with_heap s.bytes.at h.start end h.items };
  heaps = with_end h.start end s.heaps;
}

-- Reason 0, init: a heap without items, of a range that a heap may have. A range that meets heaps must lie in what one live block of each holds; it
-- meets no other recorded range and no anchor; guests make at most 64.
abbrev pub store_with_new_heap : Kind → Store → ℕ → ℕ → Store
store_with_new_heap k s at size =
    let h : HeapList = record { kind = k; start = at; end = size; items = [] } in
    record s {
      bytes = record { mapped = s.bytes.mapped; at = with_heap s.bytes.at at size [] };
      heaps = s.heaps ++ h ∷ [];
    }

unfoldable pub store_after_init : Store → ℕ → ℕ → Result (Store × Unit {0}) ErrorNumber
store_after_init s at size =
    if not (is_heap_region s.bytes at size) then Err HeapBadRegion else (
    if overlaps at size s then Err HeapOverlaps else (
    if nat_le 64 (guest_count s.heaps) then Err HeapTableFull else
    Ok (store_with_new_heap kind.Heap s at size, tt)))

-- Reason 1, describe: the largest block that can be claimed, and all that is free.
unfoldable pub heap_description : Store → ℕ → Result (ℕ × ℕ) ErrorNumber
heap_description s heap =
    bind (heap_at s heap) (λ h.
    let room : ℕ = h.end - (16 + size_of h.items) in
    Ok (largest_block room h.items, all_free room h.items))

-- Reason 2, get: a block of `size` bytes. The answer is the address of its first byte.
unfoldable pub store_after_get : Store → ℕ → ℕ → Result (Store × ℕ) ErrorNumber
store_after_get s heap size =
    bind (heap_at s heap) (λ h.
    bind (ok_or (claim_in_items (total_for size) (h.end - 16) h.items) HeapNoRoom) (λ c.
    Ok (store_holding s h c.items, h.start + 16 + c.offset + 4)))

-- Does a block hold an anchor, its length word counted with it?
abbrev pub total_or_0 : Option ℕ → ℕ
total_or_0 None = 0
total_or_0 (Some total) = total

abbrev pub holds_anchor : (ℕ → Bool) → ℕ → Option ℕ → Bool
holds_anchor anchor block total = anchor_among anchor (block - 4) (total_or_0 total)

-- Reason 3, free: the block whose bytes begin at `block`. The heaps that lie in it are forgotten.
unfoldable pub gave_back : Store → ℕ → ℕ → Result (Store × Unit {0}) ErrorNumber
gave_back s heap block =
    bind (heap_at s heap) (λ h.
    bind (ok_or (unless_image (has_image block s.others)
    (items_after_release block (h.start + 16) h.items)) HeapNotABlock) (λ items.
    let total : Option ℕ = live_total block (h.start + 16) h.items in
    if holds_anchor s.anchor block total then Err HeapHoldsAnchor else
    Ok (store_holding (store_after_forget s block (total_or_0 total) block) h items, tt)))

-- Reason 4, resize: a block whose size cannot change where it stands is moved. That is three actions in turn: another block is claimed, the old
-- bytes are copied to it, and the old block is given back. Where no byte would be left beside the length word, the block is given back, and the
-- answer is 0. No anchor may lie in a block that is moved, or in what is cut off one. The heaps of which bytes are cut off are forgotten; a block
-- in which a heap lies is not moved, which is asked last.
abbrev pub store_after_copy : Store → ℕ → ℕ → ℕ → Store
store_after_copy s from to len = record s { bytes = with_moved s.bytes from to len }

abbrev pub handed_over : ℕ → ℕ → ℕ → Store → ℕ → Result (Store × ℕ) ErrorNumber
handed_over heap block len s new = bind (gave_back (store_after_copy s block new len) heap block)
    (λ r. Ok (r.0, new))

abbrev pub store_after_move : Store → HeapList → ℕ → ℕ → ℕ → Result (Store × ℕ) ErrorNumber
store_after_move s h block old new =
    bind (ok_or (claim_in_items new (h.end - 16) h.items) HeapNoRoom) (λ c.
    if holds_heap s.heaps block (old - 4) then Err BlockHoldsHeap else
    handed_over h.start block (old - 4) (store_holding s h c.items) (h.start + 16 + c.offset + 4))

abbrev pub resized_or_moved : Store → HeapList → ℕ → ℕ → ℕ → Option (List Item) →
    Result (Store × ℕ) ErrorNumber
resized_or_moved s h block old new (Some items) =
    if anchor_among s.anchor (block - 4 + new) (old - new) then Err HeapHoldsAnchor else
    Ok (store_holding (store_after_forget s block old (block - 4 + new)) h items, block)
resized_or_moved s h block old new None =
    if holds_anchor s.anchor block (Some old) then Err HeapHoldsAnchor else store_after_move s h block old new

unfoldable pub store_after_resize : Store → ℕ → ℕ → ℕ → Result (Store × ℕ) ErrorNumber
store_after_resize s heap block change =
    bind (heap_at s heap) (λ h.
    bind (guests_total s.others h.start h.items block) (λ old.
    let sum : ℕ = changed_by old change in
    if nat_le sum 4 then bind (gave_back s heap block) (λ r. Ok (r.0, 0)) else
    resized_or_moved s h block old (round_up_8 sum) (resized_in_place block (h.start + h.end) (round_up_8 sum)
    (h.start + 16) h.items)))

-- Reason 5, change of a heap's size. The module area's heap has the size of its area, so no call changes it. The new range is one that a heap may
-- have; it may grow up to there; and it holds all items.
abbrev pub has_own_size : Kind → Bool
has_own_size kind.Heap = true
has_own_size other = false

abbrev pub own_size : HeapList → Result HeapList ErrorNumber
own_size h = if has_own_size h.kind then Ok h else Err HeapBadDesc

abbrev pub end_changed : Store → HeapList → ℕ → ℕ → Result (Store × Unit {0}) ErrorNumber
end_changed s h change end =
    if not (change % 4 == 0 && is_heap_region s.bytes h.start end) then Err HeapBadRegion else (
    if overgrows s h end then Err HeapOverlaps else (
    if nat_lt end (16 + size_of h.items) then Err HeapBadShrink else
    Ok (ending s h end, tt)))

unfoldable pub store_after_change : Store → ℕ → ℕ → Result (Store × Unit {0}) ErrorNumber
store_after_change s heap change =
    bind (heap_at s heap) (λ g.
    bind (own_size g) (λ h.
    end_changed s h change (changed_by h.end change)))

-- Reason 6, block size: what the block holds, without its length word.
abbrev pub bytes_held : Result ℕ ErrorNumber → Result ℕ ErrorNumber
bytes_held total = bind total (λ n. Ok (n - 4))

unfoldable pub block_sized : Store → ℕ → ℕ → Result ℕ ErrorNumber
block_sized s heap block =
    bind (heap_at s heap) (λ h. bytes_held (guests_total s.others h.start h.items block))

-- the items of a heap, if one starts there
unfoldable pub items_of : Store → ℕ → Option (List Item)
items_of s heap = option_map (λ h. h.items) (find_heap heap s.heaps)

abbrev pub OfHeap : (HeapList → Type 0) → Option HeapList → Type 0
OfHeap P None = ⊥
OfHeap P (Some h) = P h

-- The module area's heap gets the end that its area's size gives it.
abbrev pub MayEndArea : Store → ℕ → Type 0
MayEndArea s end = OfHeap (λ h. MayEnd s h end) (find_heap module_area_start s.heaps)

abbrev pub IsAreaEnded : Store → ℕ → Store → Type 0
IsAreaEnded s end t = OfHeap (λ h. t ≡ ending s h end) (find_heap module_area_start s.heaps)
