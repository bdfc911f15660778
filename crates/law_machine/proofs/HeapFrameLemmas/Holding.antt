-- The module area's heap gets another list, or another end; or bytes are written within its range.
use Rattle.profile.specs.MemoryMap.{module_area_start, system_start}
use Rattle.std.proofs.Common.{ℕ, ◌+◌, ◌-◌, ◌%◌, ◌≡◌, ◌≢◌, ◌≤◌, ◌<◌, ◌∙◌, true, false, List, Some, is_some, refl, sym, ap, subst, inl, inr, arith}
use Rattle.std.proofs.lemmas.Bool.{both_ways, cases_Bool, false_from_ne_true, le-leb, lt-ltb}
use Rattle.address_map.proofs.Stores.{in_range-cases}
use Rattle.address_map.specs.Bytes.{Bytes, in_range}
use Rattle.address_map.specs.Items.{size_of}
use Rattle.address_map.specs.declared.item.Item.{Item}
use Rattle.os_heap_words.proofs.ListsLemmas.LiveBlocks.{LiveBytes, law_live_bytes}
use Rattle.os_heap_words.proofs.ListsLemmas.Payloads.{heap_beside, spelled_inside}
use Rattle.os_heap_words.specs.lists.Heap.{AreTotals, HeapList, with_heap}
use Rattle.os_heap.proofs.Apart.{range_parts}
use Rattle.os_heap.proofs.Forgetting.{areas_stand, lowest_least, own_left}
use Rattle.os_heap.proofs.Found.{found_start}
use Rattle.os_heap.proofs.Moving.{found_held}
use Rattle.os_heap.specs.Calls.{store_holding, heaps_with_items}
use Rattle.os_heap.specs.Forgetting.{store_after_forget, lowest_lost}
use Rattle.os_heap.specs.Nesting.{IsWithin}
use Rattle.os_heap.specs.Store.{Store, find_heap}
use Rattle.law_machine.proofs.HeapFrameLemmas.FoundHeaps.{held_areas, left_in, same_unless}
use Rattle.law_machine.proofs.HeapFrameLemmas.InnerHeaps.{HasArea, inner_both, inner_elsewhere, within_area, written_inner}
use Rattle.law_machine.specs.heap_frame.Fits.{IsFitStore, KeepsInner, KeepsOutside, LiesInArea, StaysFit, WritesThere, is_module_byte}
use Rattle.law_machine.proofs.HeapCallsLemmas.KeptHeaps.{found_beside}
use Rattle.law_machine.specs.heap_calls.Laws.{IsNotForgotten}

-- nothing is changed, or one change after another
pub keeps_all : (s : Store) → KeepsOutside s s
keeps_all s = record {
  bytes = λ a out. refl;
  heaps = λ start other still. refl;
  anchors = λ a. refl;
  inner = λ h some lies still. record { lies = lies; bytes = λ a here. refl };
}

-- a heap that is found last was found between
pub still_between : (t u : Store) (start : ℕ) → KeepsOutside t u → start ≢ module_area_start → IsNotForgotten u start → IsNotForgotten t start
still_between t u start kept other last = sym (ap is_some (kept.heaps start other (λ there. last))) ∙ last

pub keeps_both : (s t u : Store) → KeepsOutside s t → KeepsOutside t u → KeepsOutside s u
keeps_both s t u one two = record {
  bytes = λ a out. two.bytes a out ∙ one.bytes a out;
  heaps = λ start other last. two.heaps start other last ∙ one.heaps start other (λ there. still_between t u start two other (last there));
  anchors = λ a. two.anchors a ∙ one.anchors a;
  inner = inner_both s t u one.inner two.inner (λ h lies last. still_between t u h.start two (inner_elsewhere s h lies) last);
}

pub stays_both : (limit new : ℕ) (s t u : Store) → StaysFit limit s t → StaysFit new t u → StaysFit new s u
stays_both limit new s t u one two = record { fit = two.fit; outside = keeps_both s t u one.outside two.outside }

-- a range within that of the module area and the system pages
pub range_within : (at len a : ℕ) → module_area_start ≤ at → at + len ≤ 0x01C03000 → is_module_byte a ≡ false → in_range at len a ≡ false
range_within at len a low high out = elim (in_range-cases module_area_start 0x403000 a) [
  | inl r ↦ absurd (both_ways (is_module_byte a) out r.0)
  | inr r ↦ elim (in_range-cases at len a) [
    | inr q ↦ q.0
    | inl q ↦ elim r.1 [ inl less ↦ absurd (omega (arith, less, q.1, low)) | inr past ↦ absurd (omega (arith, past, q.2, high)) ]
  ]
]

-- the words of its heap are written
pub words_within : (f : ℕ → ℕ) (start end : ℕ) (items : List Item) (a : ℕ) → start ≡ module_area_start → AreTotals items → 16 + size_of items ≤ 0x400000
    → is_module_byte a ≡ false → with_heap f start end items a ≡ f a
words_within f start end items a place totals fits out =
    let aligned : start % 4 ≡ 0 = rw place refl in
    heap_beside f start end items a aligned totals (false_from_ne_true _ (λ is.
    both_ways (in_range start 0x400000 a) (range_within start 0x400000 a (omega (arith, place)) (omega (arith, place)) out)
    (spelled_inside start 0x400000 items a aligned totals fits is)))

-- what is known of the module area's heap in the midst of a step
pub area_of : (limit : ℕ) (s : Store) (h : HeapList) → IsFitStore limit s → find_heap module_area_start s.heaps ≡ Some h → HasArea s h
area_of limit s h f found =
    let both : Some f.heap ≡ Some h = sym f.found ∙ found in
    let same : f.heap ≡ h = cc in
    record { found = found; totals = subst (λ (x : HeapList). AreTotals x.items) same f.totals; place = f.place }

-- its heap got another list
pub held_is_fit : (limit : ℕ) (s : Store) (h : HeapList) (items : List Item) (f : IsFitStore limit s) → find_heap module_area_start s.heaps ≡ Some h
    → AreTotals items → 16 + size_of items ≤ limit → IsFitStore limit (store_holding s h items)
held_is_fit limit s h items f found totals fits =
    let start : h.start ≡ module_area_start = found_start module_area_start s.heaps h found in
    let own : find_heap h.start s.heaps ≡ Some h = subst (λ (p : ℕ). find_heap p s.heaps ≡ Some h) (sym start) found in
    let both : Some f.heap ≡ Some h = sym f.found ∙ found in
    let same : f.heap ≡ h = cc in
    let there : HeapList = record { kind = h.kind; start = h.start; end = h.end; items = items } in
    let held : find_heap h.start (heaps_with_items h.start items s.heaps) ≡ Some there = found_held h.start items s.heaps h own in
    record {
      heap = there;
      found = subst (λ (p : ℕ). find_heap p (heaps_with_items h.start items s.heaps) ≡ Some there) start held;
      totals = totals;
      inside = fits;
      end = sym (ap (λ (x : HeapList). x.end) same) ∙ f.end;
      room = f.room;
      place = held_areas h.start items s.heaps f.place;
    }

pub held_fit : (limit : ℕ) (s : Store) (h : HeapList) (items : List Item) (f : IsFitStore limit s) → find_heap module_area_start s.heaps ≡ Some h
    → AreTotals items → 16 + size_of items ≤ limit → KeepsInner s (store_holding s h items) → StaysFit limit s (store_holding s h items)
held_fit limit s h items f found totals fits inner =
    let start : h.start ≡ module_area_start = found_start module_area_start s.heaps h found in
    record {
      fit = held_is_fit limit s h items f found totals fits;
      outside = record {
        bytes = λ a out. words_within s.bytes.at h.start h.end items a start totals (omega (arith, fits, f.room)) out;
        heaps = λ at other still. found_beside at h.start items s.heaps (λ is. other (is ∙ start));
        anchors = λ a. refl;
        inner = inner;
      };
    }

-- and the heaps were forgotten that had bytes of a block, from an address on
pub forgot_is_fit : (limit : ℕ) (s : Store) (h : HeapList) (block total from : ℕ) (f : IsFitStore limit s) → find_heap module_area_start s.heaps ≡ Some h
    → h.start < block → block ≤ from
    → IsFitStore limit (store_after_forget s block total from) × (find_heap module_area_start (store_after_forget s block total from).heaps ≡ Some h)
forgot_is_fit limit s h block total from f found before above =
    let start : h.start ≡ module_area_start = found_start module_area_start s.heaps h found in
    let own : find_heap h.start s.heaps ≡ Some h = subst (λ (p : ℕ). find_heap p s.heaps ≡ Some h) (sym start) found in
    let both : Some f.heap ≡ Some h = sym f.found ∙ found in
    let same : f.heap ≡ h = cc in
    let low : ℕ = lowest_lost block (total - 4) from s.heaps in
    let left : find_heap module_area_start (store_after_forget s block total from).heaps ≡ Some h =
    subst (λ (p : ℕ). find_heap p (store_after_forget s block total from).heaps ≡ Some h) start (own_left s h block total from own before above) in (
      record {
        heap = f.heap;
        found = left ∙ ap (λ (x : HeapList). Some x) (sym same);
        totals = f.totals;
        inside = f.inside;
        end = f.end;
        room = f.room;
        place = areas_stand low (block - 4 + total - low) s.heaps f.place;
      },
      left,
    )

-- a block of the module area has no byte elsewhere, so no heap that starts elsewhere is forgotten
-- with it
elsewhere_left : (s : Store) (block total from start : ℕ) → module_area_start < block → block + total ≤ 0x01C00004 → block ≤ from → is_module_byte start ≡ false
    → find_heap start (store_after_forget s block total from).heaps ≡ find_heap start s.heaps
elsewhere_left s block total from start low high above out =
    let least : ℕ = lowest_lost block (total - 4) from s.heaps in
    let len : ℕ = block - 4 + total - least in
    let past : block ≤ least = lowest_least block (total - 4) from s.heaps above in
    same_unless least len start s.heaps (false_from_ne_true (in_range least len start) (λ is.
    let parts : (least ≤ start) × (start < least + len) = range_parts least len start is in
    both_ways (is_module_byte start) out
    (rw (
      le-leb module_area_start start (omega (arith, low, past, parts.0)),
      lt-ltb start (module_area_start + 0x403000) (omega (arith, parts.0, parts.1, low, past, high)),
    ) refl)))

pub freed_fit : (limit : ℕ) (s : Store) (h : HeapList) (block total from : ℕ) (items : List Item) (f : IsFitStore limit s)
    → find_heap module_area_start s.heaps ≡ Some h → h.start < block → block + total ≤ h.start + limit + 4 → block ≤ from → AreTotals items
    → 16 + size_of items ≤ limit → KeepsInner s (store_holding (store_after_forget s block total from) h items)
    → StaysFit limit s (store_holding (store_after_forget s block total from) h items)
freed_fit limit s h block total from items f found before within above totals fits inner =
    let v : Store = store_after_forget s block total from in
    let start : h.start ≡ module_area_start = found_start module_area_start s.heaps h found in
    let there = forgot_is_fit limit s h block total from f found before above in
    record {
      fit = held_is_fit limit v h items there.0 there.1 totals fits;
      outside = record {
        bytes = λ a out. words_within s.bytes.at h.start h.end items a start totals (omega (arith, fits, f.room)) out;
        heaps = λ at other still.
            let same : find_heap at (store_holding v h items).heaps ≡ find_heap at v.heaps = found_beside at h.start items v.heaps (λ is. other (is ∙ start)) in
            same ∙ elim (cases_Bool (is_module_byte at)) [
              | inl there ↦ (left_in s block total from at f.place other (sym (ap is_some same) ∙ still there)).found
              | inr out ↦ elsewhere_left s block total from at (omega (arith, start, before)) (omega (arith, start, within, f.room)) above out
            ];
        anchors = λ a. refl;
        inner = inner;
      };
    }

-- bytes were written within its range, or in the system pages, and none of a heap that lies in a
-- block there
pub written_is_fit : (limit : ℕ) (s : Store) (c : Bytes) → IsFitStore limit s → IsFitStore limit (record s { bytes = c })
written_is_fit limit s c f = record {
  heap = f.heap;
  found = f.found;
  totals = f.totals;
  inside = f.inside;
  end = f.end;
  room = f.room;
  place = f.place;
}

pub written_outside : (s : Store) (c : Bytes) → WritesThere s c → KeepsOutside s (record s { bytes = c })
written_outside s c writes = record {
  bytes = writes.outside;
  heaps = λ at other still. refl;
  anchors = λ a. refl;
  inner = written_inner s c writes.inner;
}

pub written_fit : (limit : ℕ) (s : Store) (c : Bytes) → IsFitStore limit s → WritesThere s c → StaysFit limit s (record s { bytes = c })
written_fit limit s c f writes = record { fit = written_is_fit limit s c f; outside = written_outside s c writes }

-- no heap lies in the system pages that lies in a block of the module area
inner_before : (limit : ℕ) (s : Store) (h : HeapList) (a : ℕ) → IsFitStore limit s → LiesInArea s h → in_range h.start h.end a ≡ true
    → in_range system_start 0x3000 a ≡ false
inner_before limit s h a f lies here =
    let w : IsWithin f.heap h = within_area s f.heap h f.found lies in
    let place : LiveBytes w.block w.total (f.heap.start + 16) (f.heap.start + 16 + size_of f.heap.items) =
    law_live_bytes w.block w.total (f.heap.start + 16) f.heap.items f.totals w.live in
    let start : f.heap.start ≡ module_area_start = found_start module_area_start s.heaps f.heap f.found in
    let byte : (h.start ≤ a) × (a < h.start + h.end) = range_parts h.start h.end a here in
    false_from_ne_true (in_range system_start 0x3000 a) (λ there.
    let page : (system_start ≤ a) × (a < system_start + 0x3000) = range_parts system_start 0x3000 a there in
    omega (arith, page.0, byte.1, w.high, place.high, start, f.inside, f.room))

-- so what is written there alone is none of its bytes
pub system_writes : (limit : ℕ) (s : Store) (c : Bytes) → IsFitStore limit s → ((a : ℕ) → in_range system_start 0x3000 a ≡ false → c.at a ≡ s.bytes.at a)
    → WritesThere s c
system_writes limit s c f kept = record {
  outside = λ a out. kept a (range_within system_start 0x3000 a (omega arith) (omega arith) out);
  inner = λ h a lies here. kept a (inner_before limit s h a f lies here);
}

pub system_outside : (limit : ℕ) (s : Store) (c : Bytes) → IsFitStore limit s → ((a : ℕ) → in_range system_start 0x3000 a ≡ false → c.at a ≡ s.bytes.at a)
    → KeepsOutside s (record s { bytes = c })
system_outside limit s c f kept = written_outside s c (system_writes limit s c f kept)
