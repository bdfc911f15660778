-- The pages at the module area's top can go once its heap ends below them.
use Rattle.profile.specs.MemoryMap.{module_area_start}
use Rattle.std.proofs.Common.{◌≡◌, ℕ, ◌+◌, ◌-◌, ◌*◌, ◌<◌, ◌≤◌, true, false, List, [], ◌∷◌, ap, Some, inl, inr, arith}
use Rattle.std.proofs.lemmas.Bool.{both_ways, eq-eqb, ne_eqb, false_from_ne_true}
use Rattle.os_heap.specs.Region.{Region}
use Rattle.os_heap.specs.Bytes.{Bytes, in_range}
use Rattle.os_heap.specs.Items.{size_of}
use Rattle.os_heap.specs.lists.Heap.{HeapList, IsHeapIn}
use Rattle.os_heap.proofs.LiveBlocks.{LiveBytes, law_live_bytes}
use Rattle.os_heap.specs.Store.{Store, IsSound, IsClearOfHeaps, AreClear, ArePlaced, find_heap, is_module_area}
use Rattle.os_heap.proofs.Anchors.{among_none}
use Rattle.os_heap.proofs.InRange.{range_inside}
use Rattle.os_heap.specs.Records.{anchor_among}
use Rattle.os_heap.proofs.Anchored.{place_in}
use Rattle.os_heap.proofs.RangeTests.{range_high, range_low}
use Rattle.os_heap.specs.Calls.{with_end}
use Rattle.os_heap.specs.Nesting.{StandsApart}
use Rattle.os_heap.proofs.Stores.{AreOthers, are_others, clear_both_ways, placed_by}
use Rattle.dynamic_areas.specs.declared.area.Area.{Area}
use Rattle.dynamic_areas.specs.Areas.{AreaTable, find_area}
use Rattle.dynamic_areas.specs.Changing.{AreLoose, AreRangesClear, loose_pages}
use Rattle.dynamic_areas.specs.Ground.{AreAreas}
use Rattle.dynamic_areas.proofs.ModuleArea.{IsModuleArea, heap_below}
use Rattle.dynamic_areas.proofs.RoomLemmas.{found_number}

-- a part of the module area's heap that lies after its new end, and so after its last item: a heap
-- in one of its blocks ends before that
heaps_ended : (b : Bytes) (top len end : ℕ) (h : HeapList) (hs : List HeapList) → IsHeapIn b h.start h.end h.items → is_module_area h.kind ≡ true
    → AreOthers h hs → 16 + size_of h.items ≤ end → h.start + end ≤ top → top + len ≤ h.start + h.end → IsClearOfHeaps top len (with_end h.start end hs)
heaps_ended b top len end h [] heap area others fits low high = tt
heaps_ended b top len end h (g ∷ hs) heap area others fits low high =
    elim others.0 [
      | inl same ↦
          let start : g.start ≡ h.start = ap (λ (x : HeapList). x.start) same in
          rw (eq-eqb g.start h.start start) (
            (λ x inside. false_from_ne_true (in_range g.start end x) (λ there.
                let past : top ≤ x = range_low top len x inside in
                let below : x < g.start + end = range_high g.start end x there in
                absurd (omega arith))),
            heaps_ended b top len end h hs heap area others.1 fits low high,
          )
      | inr apart ↦ rw (ne_eqb g.start h.start apart.0) (beside apart.1, heaps_ended b top len end h hs heap area others.1 fits low high)
    ] where
      beside : StandsApart h g → AreClear top len g.start g.end
      beside (inl clear) = λ x inside.
          let past : top ≤ x = range_low top len x inside in
          let below : x < top + len = range_high top len x inside in
          clear x (range_inside h.start h.end x (omega arith) (omega arith))
      beside (inr (inr within)) = absurd (both_ways (is_module_area h.kind) within.guest area)
      beside (inr (inl within)) = λ x inside. false_from_ne_true (in_range g.start g.end x) (λ there.
          let past : top ≤ x = range_low top len x inside in
          let below : x < g.start + g.end = range_high g.start g.end x there in
          let lies : LiveBytes within.block within.total (h.start + 16) (h.start + 16 + size_of h.items) =
          law_live_bytes within.block within.total (h.start + 16) h.items heap.totals within.live in
          absurd (omega (arith, past, below, lies.high, within.high)))

-- a module image in the heap is a block of its list
ranges_behind : (top len : ℕ) (h : HeapList) (hs : List HeapList) (rs : List Region) (b : Bytes) → find_heap module_area_start hs ≡ Some h
    → IsHeapIn b h.start h.end h.items → h.start + (16 + size_of h.items) ≤ top → top + len ≤ h.start + h.end → ArePlaced hs rs → AreRangesClear top len rs
ranges_behind top len h hs [] b found spelled low high placed = tt
ranges_behind top len h hs (r ∷ rs) b found spelled low high placed = (
  elim (placed_by module_area_start hs h r placed.0 found) [
    | inl clear ↦
        let apart : AreClear h.start h.end r.at r.len = clear_both_ways r.at r.len h.start h.end clear in
        (λ x inside.
        let past : top ≤ x = range_low top len x inside in
        let below : x < top + len = range_high top len x inside in
        apart x (range_inside h.start h.end x (omega arith) (omega arith)))
    | inr image ↦
        let lies : LiveBytes r.at (r.len + 4) (h.start + 16) (h.start + 16 + size_of h.items) =
        law_live_bytes r.at (r.len + 4) (h.start + 16) h.items spelled.totals image.live in
        let end : r.at + (r.len + 4) ≤ h.start + 16 + size_of h.items + 4 = lies.high in
        (λ x inside. false_from_ne_true (in_range r.at r.len x) (λ there.
        let past : top ≤ x = range_low top len x inside in
        let below : x < r.at + r.len = range_high r.at r.len x there in
        absurd (omega arith)))
  ],
  ranges_behind top len h hs rs b found spelled low high placed.1,
)

-- anchors in the heap lie in its live blocks, below its base
anchors_behind : (s : Store) (h : HeapList) (top len : ℕ) → IsSound s → find_heap module_area_start s.heaps ≡ Some h → h.start ≡ module_area_start
    → IsHeapIn s.bytes h.start h.end h.items → h.start + (16 + size_of h.items) ≤ top → top + len ≤ h.start + h.end → anchor_among s.anchor top len ≡ false
anchors_behind s h top len sound found start spelled low high =
    among_none s.anchor top len (λ a above below. false_from_ne_true (s.anchor a) (λ is.
    elim (place_in module_area_start s.heaps h a found (sound.anchors a is).1) [
      | inl out ↦ both_ways (in_range h.start h.end a) out (range_inside h.start h.end a (omega (arith, above)) (omega (arith, below)))
      | inr held ↦
          let lies : LiveBytes held.block held.total (h.start + 16) (h.start + 16 + size_of h.items) =
          law_live_bytes held.block held.total (h.start + 16) h.items spelled.totals held.live in
          absurd (omega (arith, held.high, lies.high, above))
    ]))

-- `t` is the store after the heap got the end of the pages that are left
pub loose_ended : (s t : Store) (free : ℕ) (l : AreaTable) (a : Area) (count : ℕ) (m : IsModuleArea s a) → AreAreas s free l → find_area 1 l.areas ≡ Some a
    → count ≤ loose_pages s a → t.heaps ≡ with_end m.heap.start (4096 * (a.pages - count)) s.heaps → t.others ≡ s.others
    → t.anchor ≡ s.anchor
    → AreLoose t a count
loose_ended s t free l a count m areas e loose heaps others anchors =
    let h : HeapList = m.heap in
    let start : h.start ≡ module_area_start = m.start in
    let end : h.end ≡ 4096 * a.pages = m.end in
    let base : a.base ≡ module_area_start = m.base in
    let sound : IsSound s = areas.ground.sound in
    let beside : AreOthers h s.heaps = are_others s.bytes module_area_start s.heaps h sound.heaps m.found in
    let below : 16 + size_of h.items ≤ 4096 * (a.pages - count) = heap_below s free l a count m (found_number 1 l.areas a e) loose in
    let inside : 16 + size_of h.items ≤ h.end = m.spelled.inside in
    let top : ℕ = a.base + 4096 * (a.pages - count) in
    let fits : count ≤ a.pages = omega arith in
    record {
      fits = fits;
      heaps = rw heaps (heaps_ended s.bytes (a.base + 4096 * (a.pages - count)) (4096 * count) (4096 * (a.pages - count)) h s.heaps m.spelled (ap is_module_area m.kind) beside below
          (omega arith) (omega arith));
      ranges = rw others (ranges_behind (a.base + 4096 * (a.pages - count)) (4096 * count) h s.heaps s.others s.bytes m.found m.spelled (omega arith) (omega arith) sound.placed);
      anchors = rw anchors (anchors_behind s h (a.base + 4096 * (a.pages - count)) (4096 * count) sound m.found start m.spelled (omega arith) (omega arith));
    }
