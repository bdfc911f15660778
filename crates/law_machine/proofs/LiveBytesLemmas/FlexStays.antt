-- A byte of the flex store's range: what the calls on areas leave of it, and that it lies outside
-- the module area and the system pages.
use Rattle.profile.specs.MemoryMap.{application_start, module_area_start, system_start}
use Rattle.std.proofs.Common.{ℕ, ◌+◌, ◌-◌, ◌*◌, ◌&&◌, ◌≡◌, ◌≢◌, ◌≤◌, ◌<◌, ◌∙◌, Bool, true, false, List, [], ◌∷◌, Option, Some, refl, sym, ap, subst, inl, inr, arith}
use Rattle.std.proofs.lemmas.Bool.{and_parts, both_ways, cases_eq, false_from_ne_true, false≢true, or_cases}
use Rattle.std.specs.List.{list_any}
use Rattle.address_map.specs.Bytes.{in_range, word_start}
use Rattle.address_map.specs.Items.{is_heap_word}
use Rattle.address_map.specs.declared.region.Region.{Region}
use Rattle.os_heap_words.proofs.ListsLemmas.Payloads.{heap_beside, spelled_inside}
use Rattle.os_heap_words.specs.lists.Heap.{HeapList, with_heap}
use Rattle.os_heap.proofs.Anchored.{header_outside}
use Rattle.os_heap.proofs.Apart.{range_parts}
use Rattle.os_heap.specs.Calls.{ending}
use Rattle.os_heap.specs.Store.{AreClear, AreRangesApart, IsClearOfRanges, Store, is_flex_store, is_in_flex_store}
use Rattle.dynamic_areas.proofs.Loosened.{loose_ended}
use Rattle.dynamic_areas.proofs.ModuleArea.{IsModuleArea, module_area_known}
use Rattle.dynamic_areas.specs.declared.area.Area.{Area}
use Rattle.dynamic_areas.specs.Areas.{find_area}
use Rattle.dynamic_areas.specs.Changing.{AreLoose, store_after_end, loose_pages, store_less, with_heap_end}
use Rattle.dynamic_areas.specs.Ground.{AreRangesMapped, AreaStore, IsAreaStore, IsRecorded, is_fixed, is_in_area, is_area_table, system_pages_range}
use Rattle.law_machine.proofs.HeapFrameLemmas.Guests.{IsHeldBy, created_low, held_by}
use Rattle.law_machine.specs.heap_frame.Fits.{is_module_byte}
use Rattle.law_machine.proofs.LiveBytesLemmas.AreaCases.{HoldsAfter}
use Rattle.rma.proofs.FlexFrameLemmas.Areas.{flex_clear}
use Rattle.rma.proofs.FlexFrameLemmas.Writes.{clear_of_flex}

-- nor have the system pages
system_beside : (r : Region) (rs : List Region) → IsClearOfRanges r rs → IsRecorded system_pages_range rs → AreClear r.at r.len system_start 0x3000
system_beside r [] clear recorded = absurd recorded
system_beside r (q ∷ rs) clear recorded = elim recorded [
  | inl same ↦ subst (λ (x : Region). AreClear r.at r.len x.at x.len) same clear.0
  | inr later ↦ system_beside r rs clear.1 later
]

off_system : (rs : List Region) (a : ℕ) → AreRangesApart rs → IsRecorded system_pages_range rs → is_in_flex_store rs a ≡ true → in_range system_start 0x3000 a ≡ false
off_system [] a apart recorded is = absurd recorded
off_system (r ∷ rs) a apart recorded is = elim (or_cases (is_flex_store r.kind && in_range r.at r.len a) (is_in_flex_store rs a) is) [
  | inl here ↦
      let parts = and_parts (is_flex_store r.kind) (in_range r.at r.len a) here in
      elim recorded [
        | inl same ↦ absurd (false≢true (ap (λ (x : Region). is_flex_store x.kind) (sym same) ∙ parts.0))
        | inr later ↦ system_beside r rs apart.0 later a parts.1
      ]
  | inr later ↦ elim recorded [
    | inl same ↦ subst (λ (x : Region). in_range x.at x.len a ≡ false) same (clear_of_flex r rs a apart.0 later)
    | inr behind ↦ off_system rs a apart.1 behind later
  ]
]

flex_mapped : (mapped : ℕ → Bool) (rs : List Region) (a : ℕ) → AreRangesMapped mapped rs → is_in_flex_store rs a ≡ true → mapped a ≡ true
flex_mapped mapped [] a all is = absurd (false≢true is)
flex_mapped mapped (r ∷ rs) a all is = elim (or_cases (is_flex_store r.kind && in_range r.at r.len a) (is_in_flex_store rs a) is) [
  | inr later ↦ flex_mapped mapped rs a all.1 later
  | inl here ↦
      let parts = and_parts (is_flex_store r.kind) (in_range r.at r.len a) here in
      let byte : (r.at ≤ a) × (a < r.at + r.len) = range_parts r.at r.len a parts.1 in
      all.0 a byte.0 byte.1
]

module _ (e : AreaStore) (good : IsAreaStore e) (system : IsRecorded system_pages_range e.store.others) (a : ℕ) (flex : is_in_flex_store e.store.others a ≡ true) where
  pub flex_off : in_range system_start 0x3000 a ≡ false
  flex_off = off_system e.store.others a good.ground.sound.apart system flex

  -- no byte of the module area's heap
  out_of_heap : (area : Area) → find_area 1 e.area_table.areas ≡ Some area → in_range module_area_start (4096 * area.pages) a ≡ true → ⊥
  out_of_heap area found there =
      let m : IsModuleArea e.store area = module_area_known e.store e.pool e.area_table area good found in
      both_ways (in_range m.heap.start m.heap.end a)
      (header_outside module_area_start e.store.heaps e.store.others m.heap a good.ground.sound.placed m.found flex) (rw (m.start, m.end) there)

  in_area : IsHeldBy e.area_table.areas a → is_module_byte a ≡ true → ⊥
  in_area held is = elim (cases_eq held.area.number 1) [
    | inl first ↦
        let found : find_area 1 e.area_table.areas ≡ Some held.area = subst (λ (n : ℕ). find_area n e.area_table.areas ≡ Some held.area) first held.found in
        let m : IsModuleArea e.store held.area = module_area_known e.store e.pool e.area_table held.area good found in
        out_of_heap held.area found (subst (λ (p : ℕ). in_range p (4096 * held.area.pages) a ≡ true) m.base held.held)
    | inr other ↦
        let parts : (held.area.base ≤ a) × (a < held.area.base + 4096 * held.area.pages) = range_parts held.area.base (4096 * held.area.pages) a held.held in
        let byte : (module_area_start ≤ a) × (a < 0x01C03000) = range_parts module_area_start 0x403000 a is in
        omega (arith, created_low held.area held.room other, parts.0, byte.1)
  ]

  in_fixed : is_fixed e.area_table.sizes a ≡ true → is_module_byte a ≡ true → ⊥
  in_fixed fixed is =
      let sizes = good.ground.sizes in
      let byte : (module_area_start ≤ a) × (a < 0x01C03000) = range_parts module_area_start 0x403000 a is in
      elim (or_cases (in_range application_start (4096 * e.area_table.sizes.app) a) (in_range system_start 0x3000 a) fixed) [
        | inl low ↦
            let parts : (application_start ≤ a) × (a < application_start + 4096 * e.area_table.sizes.app) = range_parts application_start (4096 * e.area_table.sizes.app) a low in
            omega (arith, parts.1, byte.0, sizes.in_limit, sizes.has_room)
        | inr there ↦ both_ways (in_range system_start 0x3000 a) flex_off there
      ]

  pub flex_outside : is_module_byte a ≡ false
  flex_outside =
      let area_table : is_area_table e.area_table a ≡ true = sym (good.ground.area_table a) ∙ flex_mapped e.store.bytes.mapped e.store.others a good.ground.ranges flex in
      false_from_ne_true (is_module_byte a) (λ is.
      elim (or_cases (is_fixed e.area_table.sizes a) (list_any (is_in_area a) e.area_table.areas) area_table) [
        | inl fixed ↦ in_fixed fixed is
        | inr held ↦ in_area (held_by e.area_table.areas a good.ground.table.rooms held) is
      ])

  -- the words of the module area's heap are written
  words_same : (area : Area) (m : IsModuleArea e.store area) (end : ℕ) → with_heap e.store.bytes.at m.heap.start end m.heap.items a ≡ e.store.bytes.at a
  words_same area m end =
      heap_beside e.store.bytes.at m.heap.start end m.heap.items a m.spelled.aligned m.spelled.totals
      (false_from_ne_true (is_heap_word m.heap.start m.heap.items (word_start a)) (λ is.
      both_ways (in_range m.heap.start m.heap.end a)
      (header_outside module_area_start e.store.heaps e.store.others m.heap a good.ground.sound.placed m.found flex)
      (spelled_inside m.heap.start m.heap.end m.heap.items a m.spelled.aligned m.spelled.totals m.spelled.inside is)))

  abbrev Stays : Store → Type 0
  Stays t = t.bytes.at a ≡ e.store.bytes.at a

  shrunk_stays : (count : ℕ) (area : Area) → find_area 1 e.area_table.areas ≡ Some area → count ≤ loose_pages e.store area
      → Stays (store_less (with_heap_end e.store (4096 * (area.pages - count))) count (Some area))
  shrunk_stays count area found fits =
      let s : Store = e.store in
      let end : ℕ = 4096 * (area.pages - count) in
      let m : IsModuleArea s area = module_area_known s e.pool e.area_table area good found in
      let t : Store = ending s m.heap end in
      let is : with_heap_end s end ≡ t = ap (λ (o : Option HeapList). store_after_end s end o) m.found in
      let loose : AreLoose t area count = loose_ended s t e.pool e.area_table area count m good found fits refl refl refl in
      let out : in_range (area.base + 4096 * (area.pages - count)) (4096 * count) a ≡ false =
      flex_clear (area.base + 4096 * (area.pages - count)) (4096 * count) s.others a loose.ranges flex in
      subst (λ (u : Store). Stays (store_less u count (Some area))) (sym is) (rw out (words_same area m end))

  pub flex_after : HoldsAfter e Stays
  flex_after = record {
    same = refl;
    more = λ at len. refl;
    grown = λ count area found.
        let m : IsModuleArea e.store area = module_area_known e.store e.pool e.area_table area good found in
        rw m.found (words_same area m (4096 * (area.pages + count)));
    loose = λ area count loose.
        rw (flex_clear (area.base + 4096 * (area.pages - count)) (4096 * count) e.store.others a loose.ranges flex) refl;
    shrunk = shrunk_stays;
  }
