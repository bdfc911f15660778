-- The calls on dynamic areas keep a guest's heap.
use Rattle.profile.specs.MemoryMap.{module_area_start}
use Rattle.std.proofs.Common.{if◌then◌else◌, ℕ, ◌+◌, ◌-◌, ◌*◌, ◌/◌, ◌==◌, ◌||◌, ◌≡◌, ◌≢◌, ◌≤◌, ◌∙◌, false, Option, Some, None, is_some, Ok, Err, refl, sym, ap, subst, inl, inr, arith}
use Rattle.std.proofs.Math.Nat.{min-le_right}
use Rattle.std.proofs.lemmas.Bool.{both_ways, cases_Bool, eqb-false, eqb-true, false_from_ne_true, ltb-false, or_parts}
use Rattle.std.specs.Prelude.{min, nat_lt, ok_or}
use Rattle.profile.specs.Outcome.{bind}
use Rattle.profile.specs.ErrorNumber.TheVariants.{AreaInUse, AreaUnknown}
use Rattle.address_map.specs.Bytes.{in_range}
use Rattle.os_heap_words.specs.lists.Heap.{HeapList}
use Rattle.os_heap.proofs.Found.{found_start}
use Rattle.os_heap.proofs.Stores.{clear_of-found}
use Rattle.os_heap.specs.Calls.{ending}
use Rattle.os_heap.specs.Store.{Store, find_heap}
use Rattle.dynamic_areas.proofs.LooseLemmas.{loose_created}
use Rattle.dynamic_areas.proofs.Loosened.{loose_ended}
use Rattle.dynamic_areas.proofs.ModuleArea.{IsModuleArea, module_area_known}
use Rattle.dynamic_areas.proofs.RoomLemmas.{found_number}
use Rattle.dynamic_areas.specs.declared.area.Area.{Area}
use Rattle.dynamic_areas.specs.Areas.{AreaTable, find_area, with_areas, without_area}
use Rattle.dynamic_areas.specs.Changing.{AreLoose, change_answer, change_of, store_after_end, is_growth, loose_pages, pages_asked, pages_had, area_table_after_remove, store_changed, store_emptied, store_extended, store_less, store_more, store_reduced, with_heap_end}
use Rattle.dynamic_areas.specs.Creating.{pages_for}
use Rattle.dynamic_areas.specs.Ground.{AreaStore}
use Rattle.dynamic_areas.specs.Remapped.{with_pages_at, without_pages_at}
use Rattle.law_machine.proofs.HeapFrameLemmas.Growing.{ended_outside}
use Rattle.law_machine.proofs.HeapFrameLemmas.Guests.{area_stores_fit, guest_elsewhere, outside_keeps}
use Rattle.law_machine.specs.heap_frame.AreaLaws.{AreaCallsKeepHeap}
use Rattle.law_machine.specs.heap_frame.FitAreaStores.{IsFitAreaStore}
use Rattle.law_machine.specs.heap_frame.GuestLaws.{HasGuestHeap}
use Rattle.law_machine.proofs.HeapCallsLemmas.KeptHeaps.{found_past}
use Rattle.law_machine.specs.heap_calls.Laws.{IsNotForgotten, KeepsHeap}

-- nothing is changed, or one change after another
pub heap_same : (h : HeapList) (s : Store) → find_heap h.start s.heaps ≡ Some h → KeepsHeap h s s
heap_same h s found = record { found = found; bytes = λ a inside. refl; anchors = λ a inside. refl }

pub heap_then : (h : HeapList) (s t u : Store) → KeepsHeap h s t → KeepsHeap h t u → KeepsHeap h s u
heap_then h s t u one two = record {
  found = two.found;
  bytes = λ a inside. two.bytes a inside ∙ one.bytes a inside;
  anchors = λ a inside. two.anchors a inside ∙ one.anchors a inside;
}

-- pages that were mapped change no byte
mapped_keeps : (h : HeapList) (s : Store) (at len : ℕ) → find_heap h.start s.heaps ≡ Some h → KeepsHeap h s (with_pages_at s at len)
mapped_keeps h s at len found = record { found = found; bytes = λ a inside. refl; anchors = λ a inside. refl }

more_keeps : (h : HeapList) (s : Store) (count : ℕ) (o : Option Area) → find_heap h.start s.heaps ≡ Some h → KeepsHeap h s (store_more s count o)
more_keeps h s count None found = heap_same h s found
more_keeps h s count (Some a) found = mapped_keeps h s (a.base + 4096 * a.pages) (4096 * count) found

-- pages that can go are taken away
loose_keeps : (h : HeapList) (s : Store) (area : Area) (count : ℕ) → AreLoose s area count → find_heap h.start s.heaps ≡ Some h
    → KeepsHeap h s (without_pages_at s (area.base + 4096 * (area.pages - count)) (4096 * count))
loose_keeps h s area count loose found =
    let at : ℕ = area.base + 4096 * (area.pages - count) in
    record {
      found = found;
      bytes = λ a inside.
          let apart : in_range at (4096 * count) a ≡ false = false_from_ne_true (in_range at (4096 * count) a) (λ is.
          both_ways (in_range h.start h.end a) (clear_of-found at (4096 * count) h.start s.heaps h loose.heaps found a is) inside) in
          rw apart refl;
      anchors = λ a inside. refl;
    }

module _ (d : AreaStore) (h : HeapList) (g : HasGuestHeap d h) where
  -- the module area's heap gets another end
  end_keeps : (end : ℕ) → KeepsHeap h d.store (with_heap_end d.store end)
  end_keeps end =
      let f : IsFitAreaStore d = area_stores_fit d g.area_store in
      let k : HeapList = f.store.heap in
      let start : k.start ≡ module_area_start = found_start module_area_start d.store.heaps k f.store.found in
      let still : IsNotForgotten (ending d.store k end) h.start =
      ap is_some (found_past h.start k.start end d.store.heaps (λ is. guest_elsewhere d h g (is ∙ start)) ∙ g.found) in
      let kept : KeepsHeap h d.store (ending d.store k end) =
      outside_keeps d (ending d.store k end) h g (ended_outside (4096 * f.area.pages) end d.store k f.store f.store.found) (λ lies. still) in
      subst (λ (o : Option HeapList). KeepsHeap h d.store (store_after_end d.store end o)) (sym f.store.found) kept

  -- the end may be given before the pages are mapped
  end_then_more : (end count : ℕ) (o : Option Area)
      → with_heap_end (store_more d.store count o) end ≡ store_more (with_heap_end d.store end) count o
  end_then_more end count None = refl
  end_then_more end count (Some a) = of_heap (find_heap module_area_start d.store.heaps) where
    of_heap : (o : Option HeapList) → store_after_end (store_more d.store count (Some a)) end o ≡ store_more (store_after_end d.store end o) count (Some a)
    of_heap None = refl
    of_heap (Some k) = refl

  extended_keeps : (number count : ℕ) (o : Option Area) → KeepsHeap h d.store (store_extended d.store number count o)
  extended_keeps number count o = elim (cases_Bool (number == 1)) [
    | inr other ↦ rw other (more_keeps h d.store count o g.found)
    | inl area ↦
        let end : ℕ = 4096 * (pages_had o + count) in
        let ended : KeepsHeap h d.store (with_heap_end d.store end) = end_keeps end in
        rw (area, end_then_more end count o)
        (heap_then h d.store (with_heap_end d.store end) (store_more (with_heap_end d.store end) count o) ended
        (more_keeps h (with_heap_end d.store end) count o ended.found))
  ]

  -- pages of the module area go once its heap ends below them
  module_reduced : (count : ℕ) (a : Area) → find_area 1 d.area_table.areas ≡ Some a → count ≤ loose_pages d.store a
      → KeepsHeap h d.store (store_less (with_heap_end d.store (4096 * (a.pages - count))) count (Some a))
  module_reduced count a found fits =
      let s : Store = d.store in
      let end : ℕ = 4096 * (a.pages - count) in
      let m : IsModuleArea s a = module_area_known s d.pool d.area_table a g.area_store found in
      let t : Store = ending s m.heap end in
      let is : with_heap_end s end ≡ t = ap (λ (o : Option HeapList). store_after_end s end o) m.found in
      let loose : AreLoose t a count = loose_ended s t d.pool d.area_table a count m g.area_store found fits refl refl refl in
      let ended : KeepsHeap h s t = subst (λ (u : Store). KeepsHeap h s u) is (end_keeps end) in
      subst (λ (u : Store). KeepsHeap h s (store_less u count (Some a))) (sym is)
      (heap_then h s t (store_less t count (Some a)) ended (loose_keeps h t a count loose ended.found))

  reduced_keeps : (number count : ℕ) (a : Area) → find_area number d.area_table.areas ≡ Some a → count ≤ loose_pages d.store a
      → KeepsHeap h d.store (store_reduced d.store number count (Some a))
  reduced_keeps number count a found fits = elim (cases_Bool (number == 1)) [
    | inr other ↦
        let own : a.number ≡ number = found_number number d.area_table.areas a found in
        rw other (loose_keeps h d.store a count (loose_created d.store a count (λ is. eqb-false number 1 other (sym own ∙ is)) fits) g.found)
    | inl area ↦
        let first : find_area 1 d.area_table.areas ≡ Some a = subst (λ (n : ℕ). find_area n d.area_table.areas ≡ Some a) (eqb-true number 1 area) found in
        rw area (module_reduced count a first fits)
  ]

  -- no area has the number: no page goes
  none_reduced : (number count : ℕ) → KeepsHeap h d.store (store_reduced d.store number count None)
  none_reduced number count = elim (cases_Bool (number == 1)) [
    | inr other ↦ rw other (heap_same h d.store g.found)
    | inl area ↦ rw area (end_keeps (4096 * (0 - count)))
  ]

  changed_by_found : (number amount : ℕ) (o : Option Area) → find_area number d.area_table.areas ≡ o → is_growth amount ≡ false
      → KeepsHeap h d.store (store_reduced d.store number ((change_of d.store d.pool amount o).bytes / 4096) o)
  changed_by_found number amount None found shrinks = none_reduced number ((change_of d.store d.pool amount None).bytes / 4096)
  changed_by_found number amount (Some a) found shrinks =
      let count : ℕ = min (pages_asked amount) (loose_pages d.store a) in
      let gone : (change_of d.store d.pool amount (Some a)).bytes ≡ 4096 * count = rw shrinks refl in
      let whole : 4096 * count / 4096 ≡ count = omega arith in
      subst (λ (n : ℕ). KeepsHeap h d.store (store_reduced d.store number n (Some a))) (sym (ap (λ (b : ℕ). b / 4096) gone ∙ whole))
      (reduced_keeps number count a found (min-le_right (pages_asked amount) (loose_pages d.store a)))

  changed_keeps : (e : AreaStore) (number amount : ℕ)
      → e.store ≡ store_changed d.store d.area_table.areas number amount (change_answer d.area_table.areas d.store d.pool number amount).bytes
      → KeepsHeap h d.store e.store
  unfolding change_answer
  changed_keeps e number amount store =
      let found : Option Area = find_area number d.area_table.areas in
      subst (λ (t : Store). KeepsHeap h d.store t) (sym store) (elim (cases_Bool (is_growth amount)) [
        | inl grows ↦ rw grows (extended_keeps number ((change_of d.store d.pool amount found).bytes / 4096) found)
        | inr shrinks ↦ rw shrinks (changed_by_found number amount found refl shrinks)
      ])

  -- an area that went is not the module area, and all its pages could go
  emptied_keeps : (number : ℕ) (a : Area) → find_area number d.area_table.areas ≡ Some a → (number == 1 || nat_lt (loose_pages d.store a) a.pages) ≡ false
      → KeepsHeap h d.store (without_pages_at d.store a.base (4096 * a.pages))
  emptied_keeps number a found passed =
      let parts = or_parts (number == 1) (nat_lt (loose_pages d.store a) a.pages) passed in
      let own : a.number ≡ number = found_number number d.area_table.areas a found in
      let other : a.number ≢ 1 = λ is. eqb-false number 1 parts.0 (sym own ∙ is) in
      let loose : AreLoose d.store a a.pages = loose_created d.store a a.pages other (ltb-false (loose_pages d.store a) a.pages parts.1) in
      let first : a.base + 4096 * (a.pages - a.pages) ≡ a.base = omega arith in
      subst (λ (at : ℕ). KeepsHeap h d.store (without_pages_at d.store at (4096 * a.pages))) first (loose_keeps h d.store a a.pages loose g.found)

  removed_by : (number : ℕ) (left : AreaTable) (o : Option Area) → find_area number d.area_table.areas ≡ o
      → bind (ok_or o AreaUnknown) (λ a.
      if number == 1 || nat_lt (loose_pages d.store a) a.pages then Err AreaInUse else Ok (with_areas d.area_table (without_area number d.area_table.areas))) ≡ Ok left
      → KeepsHeap h d.store (store_emptied d.store o)
  removed_by number left None found done = heap_same h d.store g.found
  removed_by number left (Some a) found done = elim (cases_Bool (number == 1 || nat_lt (loose_pages d.store a) a.pages)) [
    | inl refused ↦ absurd (let no : Err AreaInUse ≡ Ok left = (let no = rw refused at done in no) in cc)
    | inr passed ↦ emptied_keeps number a found passed
  ]

  removed_keeps : (e : AreaStore) (number : ℕ) → area_table_after_remove d.area_table d.store number ≡ Ok e.area_table
      → e.store ≡ store_emptied d.store (find_area number d.area_table.areas) → KeepsHeap h d.store e.store
  unfolding area_table_after_remove
  removed_keeps e number done store =
      subst (λ (t : Store). KeepsHeap h d.store t) (sym store) (removed_by number e.area_table (find_area number d.area_table.areas) refl done)

pub area_calls_keep : AreaCallsKeepHeap
area_calls_keep d e h g = record {
  create = λ w name made done store.
      subst (λ (t : Store). KeepsHeap h d.store t) (sym store) (mapped_keeps h d.store made.base (4096 * pages_for w.size) g.found);
  remove = λ number done store. removed_keeps d h g e number done store;
  change = λ number amount store. changed_keeps d h g e number amount store;
}
