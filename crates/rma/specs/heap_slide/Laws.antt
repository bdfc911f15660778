-- Laws of every slide, said in other words than its definition.
use Rattle.std.specs.Prelude.{ℕ, ◌≡◌, ◌≤◌, ◌<◌, Bool, true, ◌+◌, ◌-◌, ◌%◌, List, [], ◌∷◌, Some, Ok}
use Rattle.dynamic_areas.specs.Items.{size_of}
use Rattle.dynamic_areas.specs.Moves.{moved_to}
use Rattle.dynamic_areas.specs.Item.{Item}
use Rattle.dynamic_areas.specs.Item.TheVariants.{Free, Live}
use Rattle.dynamic_areas.specs.Counts.{free_count}
use Rattle.dynamic_areas.specs.Heap.{AreSpaced, AreTotals, HeapList}
use Rattle.dynamic_areas.specs.OsHeapWordsLists.{live_total}
use Rattle.dynamic_areas.specs.Calls.{heap_description}
use Rattle.dynamic_areas.specs.Store.{find_heap, Store}
use Rattle.rma.specs.heap_slide.Slide.{is_listed, moves_of, item_place_after, slid, slid_bytes, with_slid}

-- the bytes of each live item stand at its new place
abbrev pub KeepsContents : (ℕ → Bool) → ℕ → ℕ → List Item → (ℕ → ℕ) → (ℕ → ℕ) → Type 0
KeepsContents movable top at [] old new = Unit {0}
KeepsContents movable top at (Live t ∷ xs) old new =
    let place : ℕ = item_place_after (movable (at + 4)) top at in
    ((k : ℕ) → k < t → new (place + k) ≡ old (at + k)) × KeepsContents movable (place + t) (at + t) xs old new
KeepsContents movable top at (Free t ∷ xs) old new = KeepsContents movable top (at + t) xs old new

abbrev pub SlideKeeps : Type 0
SlideKeeps = (movable : ℕ → Bool) (top at : ℕ) (xs : List Item) (bytes : ℕ → ℕ) → top ≤ at
    → KeepsContents movable top at xs bytes (slid_bytes movable top at xs bytes)

-- The same of the store, block by block: a live block is live where it went, and holds the same
-- bytes there.
abbrev pub SlideKeepsBlocks : Type 0
SlideKeepsBlocks = (s : Store) (h : HeapList) (movable : List ℕ) → h.start % 4 ≡ 0 → AreTotals h.items
    → (block total : ℕ) → live_total block (h.start + 16) h.items ≡ Some total
    → (let to : ℕ = moved_to (moves_of (is_listed movable) (h.start + 16) (h.start + 16) h.items) block in
    (live_total to (h.start + 16) (slid (is_listed movable) (h.start + 16) (h.start + 16) h.items)
    ≡ Some total)
    × ((k : ℕ) → k + 4 < total → (with_slid s h movable).bytes.at (to + k) ≡ s.bytes.at (block + k)))

-- no two free items are side by side, the last item is live, and the heap doesn't grow
abbrev pub SlideFits : Type 0
SlideFits = (movable : ℕ → Bool) (top at : ℕ) (xs : List Item) → top ≤ at
    → AreSpaced (slid movable top at xs) × (top + size_of (slid movable top at xs) ≤ at + size_of xs)

-- where no live item is fixed, none is free
abbrev pub AreMovable : (ℕ → Bool) → ℕ → List Item → Type 0
AreMovable movable at [] = Unit {0}
AreMovable movable at (Live t ∷ xs) = (movable (at + 4) ≡ true) × AreMovable movable (at + t) xs
AreMovable movable at (Free t ∷ xs) = AreMovable movable (at + t) xs

abbrev pub SlideClears : Type 0
SlideClears = (movable : ℕ → Bool) (top at : ℕ) (xs : List Item) → top ≤ at → AreMovable movable at xs →
    free_count (slid movable top at xs) ≡ 0

-- The heap has no free item then, and all that is free lies between its base and its end, where
-- that is a multiple of 8: what can be claimed of it is all of that without a length word.
abbrev pub SlideDescribes : Type 0
SlideDescribes = (s : Store) (h : HeapList) (movable : List ℕ) → find_heap h.start s.heaps ≡ Some h →
    AreTotals h.items → h.end % 8 ≡ 0
    → AreMovable (is_listed movable) (h.start + 16) h.items
    → (room : ℕ) → room ≡ h.end - (16 + size_of (slid (is_listed movable) (h.start + 16)
    (h.start + 16) h.items))
    → heap_description (with_slid s h movable) h.start ≡ Ok (room - 4, room)
