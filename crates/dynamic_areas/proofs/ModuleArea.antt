-- The module area's heap where its area grows or shrinks.
use Rattle.profile.specs.MemoryMap.{module_area_start}
use Rattle.std.proofs.Common.{◌≡◌, ℕ, ◌+◌, ◌-◌, ◌*◌, ◌%◌, ◌≤◌, ◌==◌, Bool, true, false, List, [], ◌∷◌, refl, sym, ap, ◌∙◌, Some, None, inl, inr, arith}
use Rattle.std.specs.Prelude.{Option}
use Rattle.std.specs.List.{list_any}
use Rattle.std.proofs.lemmas.Bool.{cases_Bool, cases_lt, cases_eq, eqb-true, eq-eqb, lt-ltb, le-ltb, ltb-false, and_parts, false≢true, false_from_ne_true}
use Rattle.os_heap.specs.Kind.TheVariants.{Rma}
use Rattle.os_heap.specs.Region.{Region}
use Rattle.os_heap.proofs.Anchors.{among_none}
use Rattle.os_heap.specs.Records.{anchor_among}
use Rattle.os_heap.specs.Bytes.{Bytes, in_range, shares_address, AreMapped, AreUnmapped}
use Rattle.os_heap.specs.Items.{size_of}
use Rattle.os_heap.specs.lists.Heap.{HeapList, IsHeapIn}
use Rattle.os_heap.specs.Store.{Store, IsSound, IsClearOfHeaps, find_heap, is_module_area}
use Rattle.os_heap.specs.Ranges.{is_heap_region, is_in_heap, is_obstructed, MayEnd}
use Rattle.os_heap.specs.Calls.{ending, with_end, MayEndArea, IsAreaEnded}
use Rattle.os_heap.proofs.RangeTests.{range_high, range_low, region_tested}
use Rattle.os_heap.proofs.Beside.{area_alone, grown_alone}
use Rattle.os_heap.proofs.Found.{found_heap, found_start}
use Rattle.os_heap.proofs.Stores.{AreOthers, are_others}
use Rattle.dynamic_areas.specs.declared.area.Area.{Area}
use Rattle.dynamic_areas.specs.Areas.{AreaTable, find_area, with_areas, with_pages, area_with_pages}
use Rattle.dynamic_areas.specs.Changing.{AreRangesClear, heap_base, must_stay, loose_pages, store_after_end}
use Rattle.dynamic_areas.specs.Ground.{IsGround, AreAreas, EndsWithArea, AreRangesMapped}
use Rattle.dynamic_areas.specs.Remapped.{with_pages_at}
use Rattle.dynamic_areas.specs.Rooms.{IsAreaRoom}
use Rattle.dynamic_areas.proofs.GroundLemmas.{ground_grown, unmapped_above, mapped_held, find_paged}
use Rattle.dynamic_areas.proofs.LooseLemmas.{page_free}
use Rattle.dynamic_areas.proofs.RecordLemmas.{unmet}
use Rattle.dynamic_areas.proofs.Remapped.{clear_unmapped}
use Rattle.dynamic_areas.proofs.RoomLemmas.{found_number, found_room}

-- what is known of the area and its heap
pub record IsModuleArea (s : Store) (a : Area) : Type 0 where
  pub heap : HeapList
  pub found : find_heap module_area_start s.heaps ≡ Some heap
  pub spelled : IsHeapIn s.bytes heap.start heap.end heap.items
  pub start : heap.start ≡ module_area_start
  pub kind : heap.kind ≡ Rma
  pub end : heap.end ≡ 4096 * a.pages
  pub base : a.base ≡ module_area_start
  pub maximum : a.maximum ≡ 4194304

ends_there : (s : Store) (a : Area) (found : Option HeapList) → IsSound s → a.base ≡ module_area_start → a.maximum ≡ 4194304
    → find_heap module_area_start s.heaps ≡ found → EndsWithArea found (Some a) → IsModuleArea s a
ends_there s a None sound base maximum e ends = absurd ends
ends_there s a (Some h) sound base maximum e ends = record {
  heap = h;
  found = e;
  spelled = found_heap s.bytes module_area_start s.heaps h sound.heaps e;
  start = found_start module_area_start s.heaps h e;
  kind = ends.0;
  end = ends.1;
  base = base;
  maximum = maximum;
}

pub module_area_known : (s : Store) (free : ℕ) (l : AreaTable) (a : Area) → AreAreas s free l → find_area 1 l.areas ≡ Some a → IsModuleArea s a
module_area_known s free l a areas e =
    let room : IsAreaRoom a = found_room 1 l.areas a areas.ground.table.rooms e in
    let number : a.number ≡ 1 = found_number 1 l.areas a e in
    let place = rw (eq-eqb a.number 1 number) at room.place in
    let parts = and_parts (a.base == module_area_start) (a.maximum == 4194304) place in
    let ends = rw e at areas.heap in
    ends_there s a (find_heap module_area_start s.heaps) areas.ground.sound (eqb-true a.base module_area_start parts.0) (eqb-true a.maximum 4194304 parts.1) refl ends

-- ranges that meet no recorded one
unmet_heaps : (at len : ℕ) (hs : List HeapList) → IsClearOfHeaps at len hs → list_any (λ h. shares_address at len h.start h.end) hs ≡ false
unmet_heaps at len [] clear = refl
unmet_heaps at len (h ∷ hs) clear = rw (unmet at len h.start h.end clear.0, unmet_heaps at len hs clear.1) refl

unmet_ranges : (at len : ℕ) (rs : List Region) → AreRangesClear at len rs → list_any (λ r. shares_address at len r.at r.len) rs ≡ false
unmet_ranges at len [] clear = refl
unmet_ranges at len (r ∷ rs) clear = rw (unmet at len r.at r.len clear.0, unmet_ranges at len rs clear.1) refl

-- nothing is in the way of a heap that lies in no other and grows by a range that meets none
free_way : (s : Store) (at len new more : ℕ) → is_in_heap at s.heaps ≡ false → IsClearOfHeaps new more s.heaps → AreRangesClear new more s.others
    → anchor_among s.anchor new more ≡ false → is_obstructed at len new more s ≡ false
free_way s at len new more alone heaps ranges anchors =
    rw (grown_alone at len new more s.heaps alone, unmet_heaps new more s.heaps heaps, unmet_ranges new more s.others ranges, anchors) refl

-- anchors are mapped
anchors_unmapped : (s : Store) (at len : ℕ) → IsSound s → AreUnmapped s.bytes.mapped at len → anchor_among s.anchor at len ≡ false
anchors_unmapped s at len sound unmapped =
    among_none s.anchor at len (λ a low high. false_from_ne_true (s.anchor a) (λ is. false≢true (sym (unmapped a low high) ∙ (sound.anchors a is).0)))

ranges_unmapped : (mapped : ℕ → Bool) (at len : ℕ) (rs : List Region) → AreUnmapped mapped at len → AreRangesMapped mapped rs → AreRangesClear at len rs
ranges_unmapped mapped at len [] unmapped ranges = tt
ranges_unmapped mapped at len (r ∷ rs) unmapped ranges = (
  λ x inside. false_from_ne_true (in_range r.at r.len x) (λ there.
      false≢true (sym (unmapped x (range_low at len x inside) (range_high at len x inside))
      ∙ ranges.0 x (range_low r.at r.len x there) (range_high r.at r.len x there))),
  ranges_unmapped mapped at len rs unmapped ranges.1,
)

-- a range that a heap may have
pub region_known : (b : Bytes) (at size : ℕ) → at % 4 ≡ 0 → size % 4 ≡ 0 → 16 ≤ size → size ≤ 16777216 → AreMapped b.mapped at size
    → is_heap_region b at size ≡ true
region_known b at size aligned whole low high mapped = sym (region_tested b at size true aligned whole low high ((λ _. mapped), (λ _. refl)))

-- after the area got more pages its heap may have their end
pub may_grow_heap : (s : Store) (free : ℕ) (l : AreaTable) (a : Area) (count : ℕ) → AreAreas s free l → find_area 1 l.areas ≡ Some a
    → 4096 * (a.pages + count) ≤ a.maximum → count ≤ free
    → MayEndArea (with_pages_at s (a.base + 4096 * a.pages) (4096 * count)) (4096 * (a.pages + count))
may_grow_heap s free l a count areas e fits pool =
    let m : IsModuleArea s a = module_area_known s free l a areas e in
    let h : HeapList = m.heap in
    let start : h.start ≡ module_area_start = m.start in
    let end : h.end ≡ 4096 * a.pages = m.end in
    let base : a.base ≡ module_area_start = m.base in
    let maximum : a.maximum ≡ 4194304 = m.maximum in
    let inside : 16 + size_of h.items ≤ h.end = m.spelled.inside in
    let t : Store = with_pages_at s (a.base + 4096 * a.pages) (4096 * count) in
    let ground = ground_grown s free l 1 a count areas.ground e fits pool in
    let top : h.start + h.end ≡ a.base + 4096 * a.pages = omega arith in
    let more : 4096 * (a.pages + count) - h.end ≡ 4096 * count = omega arith in
    let unmapped : AreUnmapped s.bytes.mapped (a.base + 4096 * a.pages) (4096 * count) = unmapped_above s free l 1 a count areas.ground e fits in
    let others : AreOthers h s.heaps = are_others s.bytes module_area_start s.heaps h areas.ground.sound.heaps m.found in
    let alone : is_in_heap h.start s.heaps ≡ false = area_alone s.bytes h s.heaps (ap is_module_area m.kind) m.spelled areas.ground.sound.heaps others in
    let may : MayEnd t h (4096 * (a.pages + count)) = record {
      region = region_known t.bytes h.start (4096 * (a.pages + count)) (omega arith) (omega arith) (omega arith) (omega arith)
          (λ x low high. mapped_held t (free - count) (with_areas l (with_pages 1 (a.pages + count) l.areas)) 1 (area_with_pages (a.pages + count) a) ground
          (find_paged 1 (a.pages + count) l.areas a e) x (omega arith) (omega arith));
      clear = elim (cases_lt h.end (4096 * (a.pages + count))) [
        | inl grows ↦ rw (lt-ltb h.end (4096 * (a.pages + count)) grows, top, more)
            (free_way t h.start (4096 * (a.pages + count)) (a.base + 4096 * a.pages) (4096 * count) alone
            (clear_unmapped s.bytes (a.base + 4096 * a.pages) (4096 * count) s.heaps unmapped areas.ground.sound.heaps)
            (ranges_unmapped s.bytes.mapped (a.base + 4096 * a.pages) (4096 * count) s.others unmapped areas.ground.ranges)
            (anchors_unmapped s (a.base + 4096 * a.pages) (4096 * count) areas.ground.sound unmapped))
        | inr stays ↦ rw (le-ltb h.end (4096 * (a.pages + count)) stays) refl
      ];
      inside = le-ltb (4096 * (a.pages + count)) (16 + size_of h.items) (omega arith);
    } in
    rw m.found may

-- before it loses pages that can go, the heap may have the end of those that are left
pub heap_below : (s : Store) (free : ℕ) (l : AreaTable) (a : Area) (count : ℕ) (m : IsModuleArea s a) → a.number ≡ 1 → count ≤ loose_pages s a
    → 16 + size_of m.heap.items ≤ 4096 * (a.pages - count)
unfolding must_stay
heap_below s free l a count m number loose =
    let h : HeapList = m.heap in
    let start : h.start ≡ module_area_start = m.start in
    let end : h.end ≡ 4096 * a.pages = m.end in
    let base : a.base ≡ module_area_start = m.base in
    let inside : 16 + size_of h.items ≤ h.end = m.spelled.inside in
    elim (cases_eq count 0) [
      | inl none ↦ omega arith
      | inr some ↦
          let free_page : must_stay s a.number (a.base + 4096 * (a.pages - count)) ≡ false = page_free s a count (a.pages - count) loose (omega arith) (omega arith) in
          let free' = rw (eq-eqb a.number 1 number, m.found) at free_page in
          let low : heap_base (Some h) ≤ a.base + 4096 * (a.pages - count) = ltb-false (a.base + 4096 * (a.pages - count)) (heap_base (Some h)) free' in
          omega arith
    ]

pub may_shrink_heap : (s : Store) (free : ℕ) (l : AreaTable) (a : Area) (count : ℕ) → AreAreas s free l → find_area 1 l.areas ≡ Some a
    → count ≤ loose_pages s a → MayEndArea s (4096 * (a.pages - count))
may_shrink_heap s free l a count areas e loose =
    let m : IsModuleArea s a = module_area_known s free l a areas e in
    let h : HeapList = m.heap in
    let start : h.start ≡ module_area_start = m.start in
    let end : h.end ≡ 4096 * a.pages = m.end in
    let maximum : a.maximum ≡ 4194304 = m.maximum in
    let within : 4096 * a.pages ≤ a.maximum = (found_room 1 l.areas a areas.ground.table.rooms e).within in
    let below : 16 + size_of h.items ≤ 4096 * (a.pages - count) = heap_below s free l a count m (found_number 1 l.areas a e) loose in
    let may : MayEnd s h (4096 * (a.pages - count)) = record {
      region = region_known s.bytes h.start (4096 * (a.pages - count)) (omega arith) (omega arith) (omega arith) (omega arith)
          (λ x low high. m.spelled.mapped x low (omega arith));
      clear = rw (le-ltb h.end (4096 * (a.pages - count)) (omega arith)) refl;
      inside = le-ltb (4096 * (a.pages - count)) (16 + size_of h.items) below;
    } in
    rw m.found may

-- the heap, and the ground, after it got another end
pub ended_is : (s t : Store) (end : ℕ) → IsAreaEnded s end t → t ≡ store_after_end s end (find_heap module_area_start s.heaps)
ended_is s t end ends = go (find_heap module_area_start s.heaps) refl ends where
  go : (found : Option HeapList) → find_heap module_area_start s.heaps ≡ found → IsAreaEnded s end t → t ≡ store_after_end s end found
  go None e ends = absurd (let none = rw e at ends in none)
  go (Some h) e ends = let is = rw e at ends in is

pub find_ended : (hs : List HeapList) (h : HeapList) (start end : ℕ) → find_heap start hs ≡ Some h
    → find_heap start (with_end h.start end hs) ≡ Some (record { kind = h.kind; start = h.start; end = end; items = h.items })
find_ended [] h start end e = absurd (let none : None ≡ Some h = e in cc)
find_ended (g ∷ hs) h start end e =
    let at : h.start ≡ start = found_start start (g ∷ hs) h e in
    elim (cases_Bool (g.start == start)) [
      | inl this ↦
          let e' = rw this at e in
          let same : g ≡ h = cc in
          let test : (g.start == h.start) ≡ true = eq-eqb g.start h.start (ap (λ (x : HeapList). x.start) same) in
          rw (test, this) (ap (λ (x : HeapList). let y : HeapList = record { kind = x.kind; start = x.start; end = end; items = x.items } in Some y) same)
      | inr other ↦
          let test : (g.start == h.start) ≡ false = rw at other in
          rw (test, other) (find_ended hs h start end (rw other at e))
    ]

pub ground_ended : (s : Store) (free : ℕ) (l : AreaTable) (h : HeapList) (end : ℕ) → IsGround s free l → IsSound (ending s h end) → IsGround (ending s h end) free l
ground_ended s free l h end ground sound = record {
  sizes = ground.sizes;
  table = ground.table;
  area_table = ground.area_table;
  pages = ground.pages;
  ranges = ground.ranges;
  sound = sound;
}
