-- The calls on dynamic areas keep the flex store: pages that go have no byte of it.
use Rattle.dynamic_areas.specs.MemoryMap.{module_area_start}
use Rattle.std.proofs.Common.{if◌then◌else◌, ℕ, ◌≡◌, ◌≢◌, ◌≤◌, ◌<◌, ◌+◌, ◌-◌, ◌*◌, ◌/◌, ◌==◌, ◌||◌, ◌&&◌, true, false, Option, Some, None, Ok, Err, List, [], ◌∷◌, refl, sym, ap, subst, ◌∙◌, inl, inr, arith}
use Rattle.std.proofs.Math.Nat.{min-le_right}
use Rattle.std.proofs.lemmas.Bool.{and_parts, both_ways, cases_Bool, eqb-false, eqb-true, false_from_ne_true, false≢true, ltb-false, or_cases, or_parts}
use Rattle.std.specs.Prelude.{min, nat_lt, ok_or}
use Rattle.dynamic_areas.specs.Outcome.{bind}
use Rattle.dynamic_areas.specs.ErrorNumber.TheVariants.{AreaInUse, AreaUnknown}
use Rattle.dynamic_areas.proofs.Anchors.{none_among}
use Rattle.dynamic_areas.specs.Bytes.{in_range}
use Rattle.dynamic_areas.specs.Region.{Region}
use Rattle.dynamic_areas.specs.Heap.{HeapList}
use Rattle.dynamic_areas.proofs.Apart.{range_parts}
use Rattle.dynamic_areas.proofs.PayloadLists.{own_start}
use Rattle.dynamic_areas.specs.Calls.{ending}
use Rattle.dynamic_areas.specs.Store.{IsSound, Store, find_heap, is_flex_store, is_in_flex_store}
use Rattle.dynamic_areas.proofs.LooseLemmas.{loose_created}
use Rattle.dynamic_areas.proofs.Loosened.{loose_ended}
use Rattle.dynamic_areas.proofs.ModuleArea.{IsModuleArea, module_area_known}
use Rattle.dynamic_areas.proofs.RoomLemmas.{found_number}
use Rattle.dynamic_areas.specs.declared.area.Area.{Area}
use Rattle.dynamic_areas.specs.declared.area.Created.{Created}
use Rattle.dynamic_areas.specs.declared.area.Wanted.{Wanted}
use Rattle.dynamic_areas.specs.Areas.{AreaTable, find_area, with_areas, without_area}
use Rattle.dynamic_areas.specs.Changing.{AreLoose, AreRangesClear, change_answer, change_of, store_after_end, is_growth, loose_pages, pages_asked, pages_had, area_table_after_remove, store_changed, store_emptied, store_extended, store_less, store_more, store_reduced, with_heap_end}
use Rattle.dynamic_areas.specs.Creating.{area_table_after_create, pages_for}
use Rattle.dynamic_areas.specs.Ground.{AreaStore, IsAreaStore}
use Rattle.dynamic_areas.specs.Remapped.{with_pages_at, without_pages_at}
use Rattle.rma.proofs.FlexFrameLemmas.Heaps.{ended_keeps, writes_keep}
use Rattle.rma.proofs.FlexFrameLemmas.Keeping.{keeps_same, keeps_then}
use Rattle.rma.specs.flex_frame.Keeping.{KeepsFlex, is_flex_byte}
use Rattle.rma.specs.flex_frame.Laws.{AreaCallsKeepFlex}

-- pages that were mapped change no byte
mapped_keeps : (s : Store) (at len : ℕ) → KeepsFlex s (with_pages_at s at len)
mapped_keeps s at len = writes_keep s (with_pages_at s at len).bytes s.heaps (λ a is. refl)

-- a range that shares no byte with a recorded one has none of the flex store's
pub flex_clear : (at len : ℕ) (rs : List Region) (a : ℕ) → AreRangesClear at len rs → is_in_flex_store rs a ≡ true → in_range at len a ≡ false
flex_clear at len [] a clear is = absurd (false≢true is)
flex_clear at len (r ∷ rs) a clear is = elim (or_cases (is_flex_store r.kind && in_range r.at r.len a) (is_in_flex_store rs a) is) [
  | inr later ↦ flex_clear at len rs a clear.1 later
  | inl here ↦
      let parts = and_parts (is_flex_store r.kind) (in_range r.at r.len a) here in
      false_from_ne_true (in_range at len a) (λ inside. both_ways (in_range r.at r.len a) (clear.0 a inside) parts.1)
]

loose_outside : (s : Store) (area : Area) (count a : ℕ) → AreLoose s area count → is_flex_byte s a ≡ true
    → in_range (area.base + 4096 * (area.pages - count)) (4096 * count) a ≡ false
loose_outside s area count a loose is =
    let at : ℕ = area.base + 4096 * (area.pages - count) in
    elim (or_cases (is_in_flex_store s.others a) (s.anchor a) is) [
      | inl there ↦ flex_clear at (4096 * count) s.others a loose.ranges there
      | inr anchor ↦ false_from_ne_true (in_range at (4096 * count) a) (λ inside.
          let parts : (at ≤ a) × (a < at + 4096 * count) = range_parts at (4096 * count) a inside in
          both_ways (s.anchor a) (none_among s.anchor at (4096 * count) a loose.anchors parts.0 parts.1) anchor)
    ]

-- pages that can go are taken away
loose_keeps : (s : Store) (area : Area) (count : ℕ) → AreLoose s area count
    → KeepsFlex s (without_pages_at s (area.base + 4096 * (area.pages - count)) (4096 * count))
loose_keeps s area count loose =
    writes_keep s (without_pages_at s (area.base + 4096 * (area.pages - count)) (4096 * count)).bytes s.heaps
    (λ a is. rw (loose_outside s area count a loose is) refl)

pub created_keeps : (d e : AreaStore) (w : Wanted) (name : List ℕ) (made : Created) → IsAreaStore d → IsAreaStore e
    → area_table_after_create d.area_table d.pool w name ≡ Ok (e.area_table, made) → e.store ≡ with_pages_at d.store made.base (4096 * pages_for w.size)
    → KeepsFlex d.store e.store
created_keeps d e w name made area_store area_store' done store =
    subst (λ (t : Store). KeepsFlex d.store t) (sym store) (mapped_keeps d.store made.base (4096 * pages_for w.size))

-- an area that went is not the module area, and all its pages could go
emptied_keeps : (s : Store) (number : ℕ) (area_table : AreaTable) (a : Area) → find_area number area_table.areas ≡ Some a
    → (number == 1 || nat_lt (loose_pages s a) a.pages) ≡ false → KeepsFlex s (without_pages_at s a.base (4096 * a.pages))
emptied_keeps s number area_table a found passed =
    let parts = or_parts (number == 1) (nat_lt (loose_pages s a) a.pages) passed in
    let own : a.number ≡ number = found_number number area_table.areas a found in
    let other : a.number ≢ 1 = λ is. eqb-false number 1 parts.0 (sym own ∙ is) in
    let loose : AreLoose s a a.pages = loose_created s a a.pages other (ltb-false (loose_pages s a) a.pages parts.1) in
    let first : a.base + 4096 * (a.pages - a.pages) ≡ a.base = omega arith in
    subst (λ (at : ℕ). KeepsFlex s (without_pages_at s at (4096 * a.pages))) first (loose_keeps s a a.pages loose)

removed_by : (s : Store) (number : ℕ) (area_table left : AreaTable) (o : Option Area) → find_area number area_table.areas ≡ o
    → bind (ok_or o AreaUnknown) (λ a.
    if number == 1 || nat_lt (loose_pages s a) a.pages then Err AreaInUse else Ok (with_areas area_table (without_area number area_table.areas))) ≡ Ok left
    → KeepsFlex s (store_emptied s o)
removed_by s number area_table left None found done = keeps_same s
removed_by s number area_table left (Some a) found done = elim (cases_Bool (number == 1 || nat_lt (loose_pages s a) a.pages)) [
  | inl refused ↦ absurd (let no : Err AreaInUse ≡ Ok left = (let no = rw refused at done in no) in cc)
  | inr passed ↦ emptied_keeps s number area_table a found passed
]

pub removed_keeps : (d e : AreaStore) (number : ℕ) → IsAreaStore d → IsAreaStore e → area_table_after_remove d.area_table d.store number ≡ Ok e.area_table
    → e.store ≡ store_emptied d.store (find_area number d.area_table.areas) → KeepsFlex d.store e.store
unfolding area_table_after_remove
removed_keeps d e number area_store area_store' done store =
    subst (λ (t : Store). KeepsFlex d.store t) (sym store)
    (removed_by d.store number d.area_table e.area_table (find_area number d.area_table.areas) refl done)

-- the module area's heap gets another end
end_keeps : (s : Store) (end : ℕ) → IsSound s → KeepsFlex s (with_heap_end s end)
end_keeps s end sound = of_heap (find_heap module_area_start s.heaps) refl where
  of_heap : (o : Option HeapList) → find_heap module_area_start s.heaps ≡ o → KeepsFlex s (store_after_end s end o)
  of_heap None found = keeps_same s
  of_heap (Some h) found = ended_keeps s h end sound (own_start module_area_start s h found)

more_keeps : (s : Store) (count : ℕ) (o : Option Area) → KeepsFlex s (store_more s count o)
more_keeps s count None = keeps_same s
more_keeps s count (Some a) = mapped_keeps s (a.base + 4096 * a.pages) (4096 * count)

-- the end may be given before the pages are mapped
end_then_more : (s : Store) (end count : ℕ) (o : Option Area) → with_heap_end (store_more s count o) end ≡ store_more (with_heap_end s end) count o
end_then_more s end count None = refl
end_then_more s end count (Some a) = of_heap (find_heap module_area_start s.heaps) where
  of_heap : (o : Option HeapList) → store_after_end (store_more s count (Some a)) end o ≡ store_more (store_after_end s end o) count (Some a)
  of_heap None = refl
  of_heap (Some h) = refl

extended_keeps : (s : Store) (number count : ℕ) (o : Option Area) → IsSound s → KeepsFlex s (store_extended s number count o)
extended_keeps s number count o sound = elim (cases_Bool (number == 1)) [
  | inr other ↦ rw other (more_keeps s count o)
  | inl area ↦
      let end : ℕ = 4096 * (pages_had o + count) in
      rw (area, end_then_more s end count o)
      (keeps_then s (with_heap_end s end) (store_more (with_heap_end s end) count o) (end_keeps s end sound) (more_keeps (with_heap_end s end) count o))
]

-- pages of the module area go once its heap ends below them
module_reduced : (d : AreaStore) (count : ℕ) (a : Area) → IsAreaStore d → find_area 1 d.area_table.areas ≡ Some a → count ≤ loose_pages d.store a
    → KeepsFlex d.store (store_less (with_heap_end d.store (4096 * (a.pages - count))) count (Some a))
module_reduced d count a area_store found fits =
    let s : Store = d.store in
    let end : ℕ = 4096 * (a.pages - count) in
    let m : IsModuleArea s a = module_area_known s d.pool d.area_table a area_store found in
    let t : Store = ending s m.heap end in
    let is : with_heap_end s end ≡ t = ap (λ (o : Option HeapList). store_after_end s end o) m.found in
    let loose : AreLoose t a count = loose_ended s t d.pool d.area_table a count m area_store found fits refl refl refl in
    subst (λ (u : Store). KeepsFlex s (store_less u count (Some a))) (sym is)
    (keeps_then s t (store_less t count (Some a)) (subst (λ (u : Store). KeepsFlex s u) is (end_keeps s end area_store.ground.sound)) (loose_keeps t a count loose))

reduced_keeps : (d : AreaStore) (number count : ℕ) (a : Area) → IsAreaStore d → find_area number d.area_table.areas ≡ Some a → count ≤ loose_pages d.store a
    → KeepsFlex d.store (store_reduced d.store number count (Some a))
reduced_keeps d number count a area_store found fits = elim (cases_Bool (number == 1)) [
  | inr other ↦
      let own : a.number ≡ number = found_number number d.area_table.areas a found in
      rw other (loose_keeps d.store a count (loose_created d.store a count (λ is. eqb-false number 1 other (sym own ∙ is)) fits))
  | inl area ↦
      let first : find_area 1 d.area_table.areas ≡ Some a = subst (λ (n : ℕ). find_area n d.area_table.areas ≡ Some a) (eqb-true number 1 area) found in
      rw area (module_reduced d count a area_store first fits)
]

-- no area has the number: no page goes
none_reduced : (s : Store) (number count : ℕ) → IsSound s → KeepsFlex s (store_reduced s number count None)
none_reduced s number count sound = elim (cases_Bool (number == 1)) [
  | inr other ↦ rw other (keeps_same s)
  | inl area ↦ rw area (end_keeps s (4096 * (0 - count)) sound)
]

changed_by_found : (d : AreaStore) (number amount : ℕ) (o : Option Area) → IsAreaStore d → find_area number d.area_table.areas ≡ o
    → is_growth amount ≡ false → KeepsFlex d.store (store_reduced d.store number ((change_of d.store d.pool amount o).bytes / 4096) o)
changed_by_found d number amount None area_store found shrinks =
    none_reduced d.store number ((change_of d.store d.pool amount None).bytes / 4096) area_store.ground.sound
changed_by_found d number amount (Some a) area_store found shrinks =
    let count : ℕ = min (pages_asked amount) (loose_pages d.store a) in
    let gone : (change_of d.store d.pool amount (Some a)).bytes ≡ 4096 * count = rw shrinks refl in
    let whole : 4096 * count / 4096 ≡ count = omega arith in
    subst (λ (n : ℕ). KeepsFlex d.store (store_reduced d.store number n (Some a))) (sym (ap (λ (b : ℕ). b / 4096) gone ∙ whole))
    (reduced_keeps d number count a area_store found (min-le_right (pages_asked amount) (loose_pages d.store a)))

pub area_changed_keeps : (d e : AreaStore) (number amount : ℕ) → IsAreaStore d → IsAreaStore e
    → e.store ≡ store_changed d.store d.area_table.areas number amount (change_answer d.area_table.areas d.store d.pool number amount).bytes
    → KeepsFlex d.store e.store
unfolding change_answer
area_changed_keeps d e number amount area_store area_store' store =
    let found : Option Area = find_area number d.area_table.areas in
    subst (λ (t : Store). KeepsFlex d.store t) (sym store) (elim (cases_Bool (is_growth amount)) [
      | inl grows ↦ rw grows (extended_keeps d.store number ((change_of d.store d.pool amount found).bytes / 4096) found area_store.ground.sound)
      | inr shrinks ↦ rw shrinks (changed_by_found d number amount found area_store refl shrinks)
    ])

pub area_calls_keep : AreaCallsKeepFlex
area_calls_keep d e area_store area_store' = record {
  create = λ w name made done store. created_keeps d e w name made area_store area_store' done store;
  remove = λ number done store. removed_keeps d e number area_store area_store' done store;
  change = λ number amount store. area_changed_keeps d e number amount area_store area_store' store;
}
