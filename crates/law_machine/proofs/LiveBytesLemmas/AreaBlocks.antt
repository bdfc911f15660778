-- The module area's blocks over the calls that change areas.
use Rattle.profile.specs.MemoryMap.{module_area_start}
use Rattle.std.proofs.Common.{ℕ, ◌+◌, ◌-◌, ◌*◌, ◌≡◌, ◌≤◌, ◌<◌, ◌∙◌, false, Option, Some, refl, sym, ap, subst, arith}
use Rattle.std.proofs.lemmas.Bool.{both_ways, false_from_ne_true, le-leb, lt-ltb}
use Rattle.address_map.specs.Bytes.{in_range}
use Rattle.address_map.specs.Items.{size_of}
use Rattle.os_heap_words.proofs.ListsLemmas.LiveBlocks.{LiveBytes, law_live_bytes}
use Rattle.os_heap_words.specs.lists.Heap.{AreTotals, HeapList}
use Rattle.os_heap_words.specs.lists.Lists.{live_total}
use Rattle.os_heap.proofs.Apart.{range_parts}
use Rattle.os_heap.proofs.Stores.{clear_of-found}
use Rattle.os_heap.specs.Calls.{ending}
use Rattle.os_heap.specs.Store.{Store, find_heap}
use Rattle.dynamic_areas.proofs.ModuleArea.{IsModuleArea, find_ended, heap_below, module_area_known}
use Rattle.dynamic_areas.proofs.RoomLemmas.{found_number}
use Rattle.dynamic_areas.specs.declared.area.Area.{Area}
use Rattle.dynamic_areas.specs.Areas.{find_area}
use Rattle.dynamic_areas.specs.Changing.{AreLoose, store_after_end, loose_pages, store_extended, store_less, with_heap_end}
use Rattle.dynamic_areas.specs.Ground.{AreaStore, IsAreaStore}
use Rattle.dynamic_areas.specs.Remapped.{without_pages_at}
use Rattle.law_machine.proofs.HeapFrameLemmas.BlockCalls.{ended_same, extended_same}
use Rattle.law_machine.proofs.HeapFrameLemmas.Blocks.{AreSame}
use Rattle.law_machine.proofs.HeapFrameLemmas.Guests.{area_stores_fit}
use Rattle.law_machine.specs.heap_frame.BlockLaws.{total_in}
use Rattle.law_machine.specs.heap_frame.FitAreaStores.{IsFitAreaStore}
use Rattle.law_machine.proofs.LiveBytesLemmas.AreaCases.{HoldsAfter, area_call_has}
use Rattle.law_machine.proofs.LiveBytesLemmas.Growing.{same_kept, same_then}
use Rattle.law_machine.specs.live_bytes.AreaLaws.{AreaCallsKeepBoth, KeepsBoth}

pub nothing_kept : (s : Store) → KeepsBoth s s
nothing_kept s block total new_total a live live' here there = refl

-- pages are taken away that have no byte of the heap's words and blocks
out_kept : (s : Store) (h : HeapList) (at len : ℕ) → find_heap module_area_start s.heaps ≡ Some h → AreTotals h.items
    → ((a : ℕ) → h.start ≤ a → a < h.start + (16 + size_of h.items) → in_range at len a ≡ false) → KeepsBoth s (without_pages_at s at len)
out_kept s h at len found totals clear block total new_total a live live' here there =
    let was : live_total block (h.start + 16) h.items ≡ Some total = sym (ap (total_in block) found) ∙ live in
    let place : LiveBytes block total (h.start + 16) (h.start + 16 + size_of h.items) = law_live_bytes block total (h.start + 16) h.items totals was in
    let parts : (block ≤ a) × (a < block + (total - 4)) = range_parts block (total - 4) a here in
    let out : in_range at len a ≡ false = clear a (omega (arith, place.low, parts.0)) (omega (arith, place.high, place.size, parts.1)) in
    rw out refl

module _ (d : AreaStore) (good : IsAreaStore d) where
  fit : IsFitAreaStore d
  fit = area_stores_fit d good

  known : IsModuleArea d.store fit.area
  known = module_area_known d.store d.pool d.area_table fit.area good fit.found

  -- pages of another area
  loose_kept : (area : Area) (count : ℕ) → AreLoose d.store area count
      → KeepsBoth d.store (without_pages_at d.store (area.base + 4096 * (area.pages - count)) (4096 * count))
  loose_kept area count loose =
      let m : IsModuleArea d.store fit.area = known in
      let at : ℕ = area.base + 4096 * (area.pages - count) in
      out_kept d.store m.heap at (4096 * count) m.found m.spelled.totals (λ a low high.
      false_from_ne_true (in_range at (4096 * count) a) (λ is.
      both_ways (in_range m.heap.start m.heap.end a)
      (clear_of-found at (4096 * count) module_area_start d.store.heaps m.heap loose.heaps m.found a is)
      (rw (le-leb m.heap.start a low, lt-ltb a (m.heap.start + m.heap.end) (omega (arith, high, m.spelled.inside))) refl)))

  -- pages of the module area go once its heap ends below them
  module_reduced : (count : ℕ) (a : Area) → find_area 1 d.area_table.areas ≡ Some a → count ≤ loose_pages d.store a
      → KeepsBoth d.store (store_less (with_heap_end d.store (4096 * (a.pages - count))) count (Some a))
  module_reduced count a found fits =
      let s : Store = d.store in
      let end : ℕ = 4096 * (a.pages - count) in
      let m : IsModuleArea s a = module_area_known s d.pool d.area_table a good found in
      let h : HeapList = m.heap in
      let t : Store = ending s h end in
      let is : with_heap_end s end ≡ t = ap (λ (o : Option HeapList). store_after_end s end o) m.found in
      let below : 16 + size_of h.items ≤ end = heap_below s d.pool d.area_table a count m (found_number 1 d.area_table.areas a found) fits in
      let at : ℕ = a.base + 4096 * (a.pages - count) in
      let same : AreSame s t = ended_same (4096 * fit.area.pages) end s h fit.store m.found in
      let left : HeapList = record { kind = h.kind; start = h.start; end = end; items = h.items } in
      let gone : KeepsBoth t (without_pages_at t at (4096 * count)) =
      out_kept t left at (4096 * count) (find_ended s.heaps h module_area_start end m.found) m.spelled.totals (λ x low high.
      false_from_ne_true (in_range at (4096 * count) x) (λ inside.
      let parts : (at ≤ x) × (x < at + 4096 * count) = range_parts at (4096 * count) x inside in
      omega (arith, parts.0, high, below, m.start, m.base))) in
      subst (λ (u : Store). KeepsBoth s (store_less u count (Some a))) (sym is)
      (same_then s t (without_pages_at t at (4096 * count)) same gone)

  both_after : HoldsAfter d (KeepsBoth d.store)
  both_after = record {
    same = nothing_kept d.store;
    more = λ at len block total new_total a live live' here there. refl;
    grown = λ count a found.
        same_kept d.store (store_extended d.store 1 count (Some a)) (extended_same (4096 * fit.area.pages) count d.store a fit.store);
    loose = loose_kept;
    shrunk = module_reduced;
  }

pub area_calls_keep_both : AreaCallsKeepBoth
area_calls_keep_both d e good = area_call_has d good (KeepsBoth d.store) (both_after d good) e
