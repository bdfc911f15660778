-- Area 1, the module area, grows, and its heap with it.
use Rattle.profile.specs.MemoryMap.{module_area_start}
use Rattle.std.proofs.Common.{ℕ, ◌+◌, ◌-◌, ◌*◌, ◌/◌, ◌≡◌, ◌≤◌, ◌∙◌, false, Option, Some, refl, sym, ap, subst, arith}
use Rattle.std.specs.Prelude.{min, nat_lt}
use Rattle.std.proofs.Math.Nat.{min-le_left}
use Rattle.std.proofs.lemmas.Bool.{ltb-false}
use Rattle.address_map.specs.Items.{size_of}
use Rattle.os_heap_words.specs.lists.Heap.{AreTotals, HeapList}
use Rattle.os_heap.proofs.Found.{found_start}
use Rattle.os_heap.specs.Calls.{ending}
use Rattle.os_heap.specs.Store.{Store, find_heap}
use Rattle.dynamic_areas.proofs.GroundLemmas.{find_paged}
use Rattle.dynamic_areas.proofs.ModuleArea.{find_ended}
use Rattle.dynamic_areas.specs.declared.area.Area.{Area}
use Rattle.dynamic_areas.specs.Areas.{find_area, area_with_pages, with_pages}
use Rattle.dynamic_areas.specs.Changing.{growth_room, area_table_more, pages_had, store_extended, store_more}
use Rattle.dynamic_areas.specs.Ground.{AreaStore}
use Rattle.law_machine.proofs.HeapFrameLemmas.FoundHeaps.{ended_areas}
use Rattle.law_machine.proofs.HeapFrameLemmas.Holding.{area_of, stays_both, words_within, written_fit}
use Rattle.law_machine.proofs.HeapFrameLemmas.InnerHeaps.{ended_inner}
use Rattle.law_machine.specs.heap_frame.Fits.{IsFitStore, KeepsOutside, StaysFit}
use Rattle.law_machine.specs.heap_frame.FitAreaStores.{AreaStoreStaysFit, IsFitAreaStore}
use Rattle.law_machine.proofs.HeapCallsLemmas.KeptHeaps.{found_past}

-- the items of the heap that is found
own_items : (limit : ℕ) (s : Store) (h : HeapList) (f : IsFitStore limit s) → find_heap module_area_start s.heaps ≡ Some h
    → AreTotals h.items × (16 + size_of h.items ≤ limit)
own_items limit s h f found =
    let both : Some f.heap ≡ Some h = sym f.found ∙ found in
    let same : f.heap ≡ h = cc in
    subst (λ (x : HeapList). AreTotals x.items × (16 + size_of x.items ≤ limit)) same (f.totals, f.inside)

-- its heap gets another end
pub ended_outside : (limit end : ℕ) (s : Store) (h : HeapList) → IsFitStore limit s → find_heap module_area_start s.heaps ≡ Some h
    → KeepsOutside s (ending s h end)
ended_outside limit end s h f found =
    let start : h.start ≡ module_area_start = found_start module_area_start s.heaps h found in
    let own : AreTotals h.items × (16 + size_of h.items ≤ limit) = own_items limit s h f found in
    record {
      bytes = λ a out. words_within s.bytes.at h.start end h.items a start own.0 (omega (arith, own.1, f.room)) out;
      heaps = λ at other still. found_past at h.start end s.heaps (λ is. other (is ∙ start));
      anchors = λ a. refl;
      inner = ended_inner s h end (area_of limit s h f found);
    }

ended_fit : (limit new : ℕ) (s : Store) (h : HeapList) → IsFitStore limit s → find_heap module_area_start s.heaps ≡ Some h → limit ≤ new → new ≤ 0x400000
    → StaysFit new s (ending s h new)
ended_fit limit new s h f found more most =
    let own : AreTotals h.items × (16 + size_of h.items ≤ limit) = own_items limit s h f found in
    record {
      fit = record {
        heap = record { kind = h.kind; start = h.start; end = new; items = h.items };
        found = find_ended s.heaps h module_area_start new found;
        totals = own.0;
        inside = omega (arith, own.1, more);
        end = refl;
        room = most;
        place = ended_areas h.start new s.heaps f.place;
      };
      outside = ended_outside limit new s h f found;
    }

-- after pages more were mapped, which changes no byte
more_fit : (limit count : ℕ) (s : Store) (a : Area) → IsFitStore limit s → StaysFit limit s (store_more s count (Some a))
more_fit limit count s a f = written_fit limit s (store_more s count (Some a)).bytes f (record { outside = λ x out. refl; inner = λ h x lies here. refl })

extended_fit : (limit count : ℕ) (s : Store) (a : Area) (f : IsFitStore limit s) → limit ≡ 4096 * a.pages → 4096 * (a.pages + count) ≤ 0x400000
    → StaysFit (4096 * (a.pages + count)) s (store_extended s 1 count (Some a))
extended_fit limit count s a f is most =
    let new : ℕ = 4096 * (a.pages + count) in
    let t : Store = store_more s count (Some a) in
    let one : StaysFit limit s t = more_fit limit count s a f in
    let two : StaysFit new t (ending t f.heap new) = ended_fit limit new t f.heap one.fit f.found (omega (arith, is)) most in
    rw f.found (stays_both limit new s t (ending t f.heap new) one two)

-- an area store whose module area grew
pub pages_fit : (e : AreaStore) (count : ℕ) (f : IsFitAreaStore e) (g : AreaStore) → 4096 * (f.area.pages + count) ≤ 0x400000
    → g.store ≡ store_extended e.store 1 count (find_area 1 e.area_table.areas) → g.area_table ≡ area_table_more e.area_table 1 count → AreaStoreStaysFit e g
pages_fit e count f g most store area_table =
    let a : Area = f.area in
    let store' : g.store ≡ store_extended e.store 1 count (Some a) = store ∙ ap (store_extended e.store 1 count) f.found in
    let areas : g.area_table.areas ≡ with_pages 1 (a.pages + count) e.area_table.areas =
    ap (λ l. l.areas) area_table ∙ ap (λ (o : Option Area). with_pages 1 (pages_had o + count) e.area_table.areas) f.found in
    let found : find_area 1 g.area_table.areas ≡ Some (area_with_pages (a.pages + count) a) =
    ap (find_area 1) areas ∙ find_paged 1 (a.pages + count) e.area_table.areas a f.found in
    let there : StaysFit (4096 * (a.pages + count)) e.store g.store =
    subst (λ (t : Store). StaysFit (4096 * (a.pages + count)) e.store t) (sym store') (extended_fit (4096 * a.pages) count e.store a f.store refl most) in
    record {
      fit = record { area = area_with_pages (a.pages + count) a; found = found; most = f.most; store = there.fit };
      outside = there.outside;
    }

-- as many pages as it can get
pub room_fits : (pool count : ℕ) (a : Area) → 4096 * a.pages ≤ 0x400000 → a.maximum ≤ 0x400000 → nat_lt (growth_room pool a) count ≡ false
    → 4096 * (a.pages + count) ≤ 0x400000
room_fits pool count a had most room =
    let few : count ≤ growth_room pool a = ltb-false (growth_room pool a) count room in
    let least : min (a.maximum / 4096 - a.pages) pool ≤ a.maximum / 4096 - a.pages = min-le_left (a.maximum / 4096 - a.pages) pool in
    omega (arith, few, least, had, most)
