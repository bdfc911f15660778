-- The slide of a heap's movable blocks. A fixed block keeps its place, a movable one goes to the
-- end of the live item before it, or to the place of the first item, where there is none. What lies
-- between becomes free, and the base is the end of the last item (RISC OS 3 Programmer's Reference
-- Manual, "OS_Module", reason 8, tidying of the module area; which blocks can be moved is this
-- project's own).
use Rattle.std.specs.Prelude.{ℕ, ◌≡◌, ◌≤◌, Bool, true, false, ◌+◌, ◌-◌, ◌==◌, List, [], ◌∷◌, ◌++◌, length, if◌then◌else◌}
use Rattle.std.specs.List.{list_any}
use Rattle.dynamic_areas.specs.Bytes.{with_moved_at}
use Rattle.dynamic_areas.specs.Moves.{moved_regions}
use Rattle.dynamic_areas.specs.BlockMove.{BlockMove}
use Rattle.dynamic_areas.specs.Item.{Item}
use Rattle.dynamic_areas.specs.Item.TheVariants.{Free, Live}
use Rattle.dynamic_areas.specs.Heap.{HeapList, with_heap}
use Rattle.dynamic_areas.specs.OsHeapWordsLists.{left_free, live_total}
use Rattle.dynamic_areas.specs.Calls.{OfHeap, holds_anchor, total_or_0, heaps_with_items}
use Rattle.dynamic_areas.specs.Forgetting.{holds_heap}
use Rattle.dynamic_areas.specs.Store.{Store, find_heap}

-- is the block whose bytes begin at an address one of those that can be moved?
abbrev pub is_listed : List ℕ → ℕ → Bool
is_listed movable block = list_any (λ m. m == block) movable

-- where an item at `at` goes, the items before which end at `top`
abbrev pub item_place_after : Bool → ℕ → ℕ → ℕ
item_place_after moves top at = if moves then top else at

-- the items after the slide: those before these end at `top` then, and the first of these is at
-- `at` before it
abbrev pub slid : (ℕ → Bool) → ℕ → ℕ → List Item → List Item
slid movable top at [] = []
slid movable top at (Live t ∷ xs) =
    let place : ℕ = item_place_after (movable (at + 4)) top at in
    left_free (place - top) ++ Live t ∷ slid movable (place + t) (at + t) xs
slid movable top at (Free t ∷ xs) = slid movable top (at + t) xs

-- the bytes after the live items were copied, one after another upwards
abbrev pub slid_bytes : (ℕ → Bool) → ℕ → ℕ → List Item → (ℕ → ℕ) → ℕ → ℕ
slid_bytes movable top at [] bytes = bytes
slid_bytes movable top at (Live t ∷ xs) bytes =
    let place : ℕ = item_place_after (movable (at + 4)) top at in
    slid_bytes movable (place + t) (at + t) xs (with_moved_at bytes at place t)
slid_bytes movable top at (Free t ∷ xs) bytes = slid_bytes movable top (at + t) xs bytes

-- the old and the new address of each block that moved
abbrev pub move_of : ℕ → ℕ → List BlockMove
move_of at place = if place == at then [] else (record { from = at + 4; to = place + 4 } ∷ [])

abbrev pub moves_of : (ℕ → Bool) → ℕ → ℕ → List Item → List BlockMove
moves_of movable top at [] = []
moves_of movable top at (Live t ∷ xs) =
    let place : ℕ = item_place_after (movable (at + 4)) top at in
    move_of at place ++ moves_of movable (place + t) (at + t) xs
moves_of movable top at (Free t ∷ xs) = moves_of movable top (at + t) xs

-- the addresses after that of a block, where it is the first of them, else all
abbrev pub begins : ℕ → List ℕ → Bool
begins block [] = false
begins block (m ∷ movable) = m == block

abbrev pub without_first_block : ℕ → List ℕ → List ℕ
without_first_block block [] = []
without_first_block block (m ∷ movable) = if m == block then movable else m ∷ movable

-- the addresses are those of live blocks, in order, where the first item is at `at`
abbrev pub AreBlocks : ℕ → List Item → List ℕ → Type 0
AreBlocks at [] movable = movable ≡ []
AreBlocks at (Live t ∷ xs) movable = AreBlocks (at + t) xs (without_first_block (at + 4) movable)
AreBlocks at (Free t ∷ xs) movable = AreBlocks (at + t) xs movable

-- the store after the slide of one heap: the bytes copied, then the words of the new list over
-- them, and the records of images that moved
abbrev pub with_slid : Store → HeapList → List ℕ → Store
with_slid s h movable =
    let at : ℕ = h.start + 16 in
    let items : List Item = slid (is_listed movable) at at h.items in
    let bytes : ℕ → ℕ = slid_bytes (is_listed movable) at at h.items s.bytes.at in
    record s {
      bytes = record { mapped = s.bytes.mapped; at = with_heap bytes h.start h.end items };
      heaps = heaps_with_items h.start items s.heaps;
      others = moved_regions (moves_of (is_listed movable) at at h.items) s.others;
    }

-- no anchor lies in a block that can be moved
abbrev pub HoldNoAnchor : Store → HeapList → List ℕ → Type 0
HoldNoAnchor s h movable =
    (b : ℕ) → is_listed movable b ≡ true → holds_anchor s.anchor b (live_total b (h.start + 16) h.items)
    ≡ false

-- and no heap lies in one
abbrev pub HoldNoHeap : List HeapList → HeapList → List ℕ → Type 0
HoldNoHeap hs h movable =
    (b : ℕ) → is_listed movable b ≡ true → holds_heap hs b
    (total_or_0 (live_total b (h.start + 16) h.items) - 4) ≡ false

-- the blocks that can be moved are live ones of that heap, in order, at most 128, and hold no
-- anchor and no heap
abbrev pub MaySlide : Store → ℕ → List ℕ → Type 0
MaySlide s heap movable = OfHeap (λ h.
    AreBlocks (h.start + 16) h.items movable × ((length movable ≤ 128) ×
    (HoldNoAnchor s h movable × HoldNoHeap s.heaps h movable))) (find_heap heap s.heaps)

-- the store after the slide of a heap, and the blocks that moved
abbrev pub IsHeapSlid : Store → ℕ → List ℕ → Store → List BlockMove → Type 0
IsHeapSlid s heap movable t moves = OfHeap (λ h.
    (t ≡ with_slid s h movable) × (moves ≡ moves_of (is_listed movable) (h.start + 16)
    (h.start + 16) h.items)) (find_heap heap s.heaps)
