-- The calls on heaps, on areas and on module images keep the flex store, and so do writes beside
-- it: each of them, in every sound store.
use Rattle.dynamic_areas.specs.MemoryMap.{module_area_start, system_start}
use Rattle.std.specs.Prelude.{ℕ, ◌≡◌, ◌+◌, ◌-◌, ◌*◌, false, Some, Result, Ok, List, [], ◌∷◌, ◌++◌}
use Rattle.dynamic_areas.specs.Outcome.{Gives}
use Rattle.dynamic_areas.specs.ErrorNumber.{ErrorNumber}
use Rattle.dynamic_areas.specs.Bytes.{Bytes, in_range}
use Rattle.dynamic_areas.specs.Records.{anchor_among, without_region}
use Rattle.dynamic_areas.specs.BlockMove.{BlockMove}
use Rattle.dynamic_areas.specs.Kind.TheVariants as kind
use Rattle.dynamic_areas.specs.OsHeapWordsLists.{live_total}
use Rattle.dynamic_areas.specs.Calls.{OfHeap, store_after_init, store_after_change, gave_back, store_after_get, store_after_resize}
use Rattle.dynamic_areas.specs.Store.{Store, IsSound, find_heap}
use Rattle.rma.specs.heap_slide.Slide.{IsHeapSlid, MaySlide}
use Rattle.dynamic_areas.specs.declared.area.Created.{Created}
use Rattle.dynamic_areas.specs.declared.area.Wanted.{Wanted}
use Rattle.dynamic_areas.specs.Areas.{find_area}
use Rattle.dynamic_areas.specs.Changing.{change_answer, area_table_after_remove, store_changed, store_emptied}
use Rattle.dynamic_areas.specs.Creating.{area_table_after_create, pages_for}
use Rattle.dynamic_areas.specs.Ground.{AreaStore, IsAreaStore, IsRecorded, system_pages_range}
use Rattle.dynamic_areas.specs.Remapped.{with_pages_at}
use Rattle.rma.specs.flex_frame.Keeping.{RangeHasNoAnchor, KeepsFlex}

pub record HeapCallKeeps (s t : Store) (heap : ℕ) : Type 0 where
  pub init : (size : ℕ) (r : Result (Unit {0}) ErrorNumber) → Gives s (store_after_init s heap size) r t →
      KeepsFlex s t
  pub get : (size : ℕ) (r : Result ℕ ErrorNumber) → Gives s (store_after_get s heap size) r t → KeepsFlex s t
  pub free : (block : ℕ) (r : Result (Unit {0}) ErrorNumber) → Gives s (gave_back s heap block) r t →
      KeepsFlex s t
  pub resize : (block change : ℕ) (r : Result ℕ ErrorNumber) →
      Gives s (store_after_resize s heap block change) r t → KeepsFlex s t
  pub change_size : (change : ℕ) (r : Result (Unit {0}) ErrorNumber) →
      Gives s (store_after_change s heap change) r t → KeepsFlex s t

abbrev pub HeapCallsKeepFlex : Type 0
HeapCallsKeepFlex = (s t : Store) (heap : ℕ) → IsSound s → IsSound t → HeapCallKeeps s t heap

pub record AreaCallKeeps (d e : AreaStore) : Type 0 where
  pub create : (w : Wanted) (name : List ℕ) (made : Created) →
      area_table_after_create d.area_table d.pool w name ≡ Ok (e.area_table, made)
      → e.store ≡ with_pages_at d.store made.base (4096 * pages_for w.size) → KeepsFlex d.store e.store
  pub remove : (number : ℕ) → area_table_after_remove d.area_table d.store number ≡ Ok e.area_table →
      e.store ≡ store_emptied d.store (find_area number d.area_table.areas)
      → KeepsFlex d.store e.store
  pub change : (number amount : ℕ)
      → e.store ≡ store_changed d.store d.area_table.areas number amount
      (change_answer d.area_table.areas d.store d.pool number amount).bytes
      → KeepsFlex d.store e.store

abbrev pub AreaCallsKeepFlex : Type 0
AreaCallsKeepFlex = (d e : AreaStore) → IsAreaStore d → IsAreaStore e → AreaCallKeeps d e

pub record WriteKeeps (s : Store) : Type 0 where
  pub system : (c : Bytes) → IsSound s → IsRecorded system_pages_range s.others
      → ((a : ℕ) → in_range system_start 0x3000 a ≡ false → c.at a ≡ s.bytes.at a) →
      KeepsFlex s (record s { bytes = c })
  pub block : (c : Bytes) (block total : ℕ) → IsSound s
      → OfHeap (λ h. live_total block (h.start + 16) h.items ≡ Some total)
      (find_heap module_area_start s.heaps) → RangeHasNoAnchor s block (total - 4)
      → ((a : ℕ) → in_range block (total - 4) a ≡ false → c.at a ≡ s.bytes.at a) →
      KeepsFlex s (record s { bytes = c })
  pub written : (c : Bytes) (at len : ℕ) → RangeHasNoAnchor s at len →
      RangeHasNoAnchor (record s { bytes = c }) at len
  pub unanchored : (at len : ℕ) → anchor_among s.anchor at len ≡ false → RangeHasNoAnchor s at len
  pub recorded : (at len : ℕ) → RangeHasNoAnchor s at len
      → KeepsFlex s (record s { others = s.others ++ record { kind = kind.Image; at = at; len = len } ∷ [] })
  pub dropped : (at : ℕ) → KeepsFlex s (record s { others = without_region s.others kind.Image at })

abbrev pub WritesKeepFlex : Type 0
WritesKeepFlex = (s : Store) → WriteKeeps s

abbrev pub SlidesKeepFlex : Type 0
SlidesKeepFlex = (s t : Store) (movable : List ℕ) (moves : List BlockMove) → IsSound s → IsSound t →
    MaySlide s module_area_start movable
    → IsHeapSlid s module_area_start movable t moves → KeepsFlex s t
