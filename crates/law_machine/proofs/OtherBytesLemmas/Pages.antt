-- What the calls on dynamic areas write.
use Rattle.std.proofs.Common.{ℕ, ◌≡◌, ◌+◌, ◌-◌, ◌*◌, ◌/◌, ◌==◌, ◌∙◌, ◌⊎◌, not, true, Option, Some, None, refl, sym, ap, subst, inl, inr}
use Rattle.std.proofs.lemmas.Bool.{and_right, cases_Bool, eqb-true}
use Rattle.address_map.specs.Bytes.{in_range}
use Rattle.os_heap_words.specs.lists.Heap.{HeapList}
use Rattle.os_heap.specs.Store.{Store}
use Rattle.dynamic_areas.specs.declared.area.Area.{Area}
use Rattle.dynamic_areas.specs.Areas.{find_area}
use Rattle.dynamic_areas.specs.Changing.{change_answer, is_growth, pages_had, store_emptied, store_extended, store_less, store_more, store_reduced, with_heap_end}
use Rattle.dynamic_areas.specs.Remapped.{without_pages_at}
use Rattle.law_machine.proofs.HeapFrameLemmas.AreaReleases.{area_there}
use Rattle.law_machine.proofs.OtherBytesLemmas.AreaGrowth.{IsBase, IsGrown, base_of, end_grown, extended_grown, not_grown}
use Rattle.law_machine.specs.other_bytes.PageWrites.{IsAreaEndByte, IsUnmapped, PageCallsKeepOthers}

-- pages that go
gone_byte : (s : Store) (at len a : ℕ) → ((without_pages_at s at len).bytes.at a ≡ s.bytes.at a) ⊎ IsUnmapped (without_pages_at s at len) a
gone_byte s at len a = elim (cases_Bool (in_range at len a)) [
  | inl inside ↦ inr (and_right (s.bytes.mapped a) (not (in_range at len a)) (rw inside refl))
  | inr out ↦ inl (rw out refl)
]

emptied_byte : (s : Store) (o : Option Area) (a : ℕ) → ((store_emptied s o).bytes.at a ≡ s.bytes.at a) ⊎ IsUnmapped (store_emptied s o) a
emptied_byte s None a = inl refl
emptied_byte s (Some area) a = gone_byte s area.base (4096 * area.pages) a

more_byte : (s : Store) (count : ℕ) (o : Option Area) (a : ℕ) → (store_more s count o).bytes.at a ≡ s.bytes.at a
more_byte s count None a = refl
more_byte s count (Some area) a = refl

module _ (d : Store) (o : HeapList) (base : IsBase d o) (a number : ℕ) where
  abbrev Ended : Type 0
  Ended = (number ≡ 1) × IsAreaEndByte a

  abbrev Pages : Store → Type 0
  Pages t = (t.bytes.at a ≡ d.bytes.at a) ⊎ (IsUnmapped t a ⊎ Ended)

  grown_byte : (t : Store) → number ≡ 1 → IsGrown d o base t → (t.bytes.at a ≡ d.bytes.at a) ⊎ Ended
  grown_byte t area grown = elim (cases_Bool (in_range (o.start + 12) 4 a)) [
    | inl is ↦ inr (area, subst (λ (p : ℕ). in_range (p + 12) 4 a ≡ true) base.start is)
    | inr out ↦ inl (grown.bytes a out)
  ]

  ended_pages : (t : Store) → (t.bytes.at a ≡ d.bytes.at a) ⊎ Ended → Pages t
  ended_pages t (inl same) = inl same
  ended_pages t (inr ended) = inr (inr ended)

  extended_pages : (count : ℕ) (found : Option Area) → Pages (store_extended d number count found)
  extended_pages count found = elim (cases_Bool (number == 1)) [
    | inr other ↦ rw other (inl (more_byte d count found a))
    | inl area ↦
        let one : number ≡ 1 = eqb-true number 1 area in
        let t : Store = store_extended d 1 count found in
        rw area (ended_pages t (grown_byte t one (extended_grown d o base d count found (not_grown d o base))))
  ]

  less_pages : (s : Store) (count : ℕ) (found : Option Area) → (s.bytes.at a ≡ d.bytes.at a) ⊎ Ended → Pages (store_less s count found)
  less_pages s count None before = ended_pages s before
  less_pages s count (Some area) before = elim (gone_byte s (area.base + 4096 * (area.pages - count)) (4096 * count) a) [
    | inr gone ↦ inr (inl gone)
    | inl kept ↦ elim before [
      | inl same ↦ inl (kept ∙ same)
      | inr ended ↦ inr (inr ended)
    ]
  ]

  reduced_pages : (count : ℕ) (found : Option Area) → Pages (store_reduced d number count found)
  reduced_pages count found = elim (cases_Bool (number == 1)) [
    | inr other ↦ rw other (less_pages d count found (inl refl))
    | inl area ↦
        let one : number ≡ 1 = eqb-true number 1 area in
        let end : ℕ = 4096 * (pages_had found - count) in
        rw area (less_pages (with_heap_end d end) count found
        (grown_byte (with_heap_end d end) one (end_grown d o base d end (not_grown d o base))))
  ]

pub page_calls_keep_others : PageCallsKeepOthers
page_calls_keep_others d e a good small =
    let o : HeapList = (area_there d good).known.heap in
    let base : IsBase d.store o = base_of d good small in
    record {
      create = λ w name made done store. ap (λ (t : Store). t.bytes.at a) store;
      remove = λ number done store.
          subst (λ (t : Store). (t.bytes.at a ≡ d.store.bytes.at a) ⊎ IsUnmapped t a) (sym store)
          (emptied_byte d.store (find_area number d.area_table.areas) a);
      change = λ number amount store.
          let bytes : ℕ = (change_answer d.area_table.areas d.store d.pool number amount).bytes in
          let found : Option Area = find_area number d.area_table.areas in
          subst (λ (t : Store). Pages d.store o base a number t) (sym store) (elim (cases_Bool (is_growth amount)) [
            | inl grows ↦ rw grows (extended_pages d.store o base a number (bytes / 4096) found)
            | inr shrinks ↦ rw shrinks (reduced_pages d.store o base a number (bytes / 4096) found)
          ]);
    }
