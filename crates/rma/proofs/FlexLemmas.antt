-- The flex store over growth of the module area, and over what becomes of the block of a new image.
use Rattle.dynamic_areas.specs.MemoryMap.{module_area_start}
use Rattle.std.proofs.Common.{◌≡◌, ℕ, ◌+◌, ◌-◌, ◌≤◌, false, List, length, sym, ap, subst, ◌∙◌, Some, inl, inr, arith}
use Rattle.std.specs.Prelude.{IfOk}
use Rattle.std.proofs.lemmas.Bool.{cases_Bool}
use Rattle.dynamic_areas.specs.Bytes.{with_bytes, with_moved}
use Rattle.dynamic_areas.specs.Memory.{free_pages}
use Rattle.dynamic_areas.specs.AddressMap.{AddressMap}
use Rattle.dynamic_areas.specs.Heap.{HeapList}
use Rattle.dynamic_areas.specs.OsHeapWordsLists.{live_total}
use Rattle.dynamic_areas.specs.Calls.{OfHeap, block_sized, store_after_copy}
use Rattle.dynamic_areas.specs.Forgetting.{holds_heap}
use Rattle.dynamic_areas.specs.Store.{IsSound, Store, find_heap, has_image, store_of}
use Rattle.dynamic_areas.specs.declared.area.Changed.{Changed}
use Rattle.dynamic_areas.specs.Areas.{AreaTable}
use Rattle.dynamic_areas.specs.Changing.{change_answer, store_changed}
use Rattle.dynamic_areas.specs.Ground.{IsAreaStore, area_store_of}
use Rattle.rma.specs.flex_frame.Keeping.{RangeHasNoAnchor, KeepsFlex}
use Rattle.rma.proofs.FlexFrameLemmas.Areas.{area_changed_keeps}
use Rattle.rma.proofs.FlexFrameLemmas.Keeping.{keeps_then}
use Rattle.rma.proofs.FlexFrameLemmas.Writes.{block_keeps}
use Rattle.rma.specs.NewImages.{IsLiveBlock, store_with_image_bytes}
use Rattle.rma.proofs.NewImageLemmas.{IsLiveIn, live_in, outside, shorter, unmoved}

pub growth_keeps : (m n : AddressMap) (l k : AreaTable) (amount : ℕ) (made : Changed) → IsAreaStore (area_store_of m l) → IsAreaStore (area_store_of n k)
    → made ≡ change_answer l.areas (store_of m) (free_pages m) 1 amount → store_of n ≡ store_changed (store_of m) l.areas 1 amount made.bytes
    → KeepsFlex (store_of m) (store_of n)
growth_keeps m n l k amount made good after answer store =
    area_changed_keeps (area_store_of m l) (area_store_of n k) 1 amount good after
    (store ∙ ap (λ (x : Changed). store_changed (store_of m) l.areas 1 amount x.bytes) answer)

-- what is written into a live block that no anchor lies in
pub filled_keeps : (s : Store) (block total : ℕ) (bytes : List ℕ) → IsSound s → IsLiveBlock s block total → RangeHasNoAnchor s block (total - 4)
    → length bytes + 4 ≤ total → KeepsFlex s (store_with_image_bytes s block bytes)
filled_keeps s block total bytes sound live unanchored fits =
    block_keeps s (with_bytes s.bytes block bytes) block total sound live unanchored
    (λ a out. outside s.bytes.at block a bytes (shorter block (length bytes) (total - 4) a (omega (arith, fits)) out))

pub copied_keeps : (s : Store) (block total from len : ℕ) → IsSound s → IsLiveBlock s block total → RangeHasNoAnchor s block (total - 4)
    → len + 4 ≤ total → KeepsFlex s (store_after_copy s from block len)
copied_keeps s block total from len sound live unanchored fits =
    block_keeps s (with_moved s.bytes from block len) block total sound live unanchored
    (λ a out. unmoved s.bytes.at from block len a (shorter block len (total - 4) a (omega (arith, fits)) out))

-- no anchor lies in the bytes that it is recorded over
sized_unanchored : (s : Store) (block total : ℕ) → IsLiveBlock s block total → RangeHasNoAnchor s block (total - 4)
    → IfOk (block_sized s module_area_start block) (λ len. RangeHasNoAnchor s block len)
unfolding block_sized
sized_unanchored s block total live unanchored =
    let l : IsLiveIn s block total = live_in s block total live in
    elim (cases_Bool (has_image block s.others)) [
      | inl image ↦ rw (l.found, image) tt
      | inr none ↦ rw (l.found, none, l.live) unanchored
    ]

-- and no heap lies in them
pub sized_unheaped : (s u : Store) (block total : ℕ) → IsLiveBlock s block total → u.heaps ≡ s.heaps → holds_heap s.heaps block (total - 4) ≡ false
    → IfOk (block_sized u module_area_start block) (λ len. holds_heap u.heaps block len ≡ false)
unfolding block_sized
sized_unheaped s u block total live same empty =
    let there : IsLiveBlock u block total =
    subst (λ (hs : List HeapList). OfHeap (λ h. live_total block (h.start + 16) h.items ≡ Some total) (find_heap module_area_start hs)) (sym same) live in
    let empty' : holds_heap u.heaps block (total - 4) ≡ false = ap (λ (hs : List HeapList). holds_heap hs block (total - 4)) same ∙ empty in
    let l : IsLiveIn u block total = live_in u block total there in
    elim (cases_Bool (has_image block u.others)) [
      | inl image ↦ rw (l.found, image) tt
      | inr none ↦ rw (l.found, none, l.live) empty'
    ]

-- a new image: s is the store before, t after the claim, u with the bytes, v with the record
pub made_keeps : (s t u v : Store) (block total : ℕ) → IsLiveBlock t block total → u.heaps ≡ t.heaps → RangeHasNoAnchor u block (total - 4)
    → KeepsFlex s t → KeepsFlex t u → (IfOk (block_sized u module_area_start block) (λ len. RangeHasNoAnchor u block len) → KeepsFlex u v) → KeepsFlex s v
made_keeps s t u v block total is heaps unanchored claimed filled recorded =
    let there : IsLiveBlock u block total =
    subst (λ (hs : List HeapList). OfHeap (λ h. live_total block (h.start + 16) h.items ≡ Some total) (find_heap module_area_start hs)) (sym heaps) is in
    keeps_then s t v claimed (keeps_then t u v filled (recorded (sized_unanchored u block total there unanchored)))
