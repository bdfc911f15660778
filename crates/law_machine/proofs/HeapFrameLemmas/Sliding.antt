-- The module area's heap slides.
use Rattle.profile.specs.MemoryMap.{module_area_start, system_start}
use Rattle.std.proofs.Common.{ℕ, ◌+◌, ◌-◌, ◌%◌, ◌≡◌, ◌≤◌, ◌<◌, ◌∙◌, Bool, true, false, List, Option, Some, refl, sym, ap, subst, inl, inr, arith}
use Rattle.std.proofs.lemmas.Bool.{both_ways, false_from_ne_true}
use Rattle.address_map.proofs.Stores.{in_range-cases}
use Rattle.address_map.specs.Items.{size_of}
use Rattle.address_map.specs.Moves.{moved_to}
use Rattle.address_map.specs.declared.item.Item.{Item}
use Rattle.os_heap_words.proofs.ListsLemmas.LiveBlocks.{LiveBytes, law_live_bytes}
use Rattle.os_heap_words.specs.lists.Heap.{AreTotals, HeapList}
use Rattle.os_heap_words.specs.lists.Lists.{live_total}
use Rattle.os_heap.proofs.Apart.{range_parts}
use Rattle.os_heap.proofs.Forgetting.{so_starts}
use Rattle.os_heap.proofs.Found.{found_start}
use Rattle.os_heap.proofs.Moving.{found_held}
use Rattle.os_heap.proofs.Nesting.{listed}
use Rattle.os_heap.specs.Calls.{store_holding, total_or_0}
use Rattle.os_heap.specs.Forgetting.{holds_heap, starts_in}
use Rattle.os_heap.specs.Nesting.{IsWithin}
use Rattle.os_heap.specs.Store.{Store, find_heap}
use Rattle.rma.proofs.HeapSlideLemmas.KeptBlocks.{bytes_fixed, slide_keeps_blocks}
use Rattle.rma.proofs.HeapSlideLemmas.LawLemmas.{slid_totals, slide_fits}
use Rattle.rma.proofs.HeapSlideLemmas.Places.{bytes_low, bytes_past, moved_stays}
use Rattle.rma.specs.heap_slide.Slide.{HoldNoHeap, is_listed, moves_of, slid, slid_bytes, with_slid}
use Rattle.law_machine.proofs.HeapCallsLemmas.KeptHeaps.{found_beside}
use Rattle.law_machine.proofs.HeapCallsLemmas.NoHeapInside.{found_holds}
use Rattle.law_machine.proofs.HeapFrameLemmas.Holding.{area_of, held_is_fit, words_within}
use Rattle.law_machine.proofs.HeapFrameLemmas.InnerHeaps.{HasArea, inner_elsewhere, within_area}
use Rattle.law_machine.specs.heap_frame.Fits.{IsFitStore, KeepsInner, is_module_byte}
use Rattle.law_machine.specs.heap_frame.SlideLaws.{SlidesStayFit}

-- the bytes of its items are copied within its range
slid_within : (mv : ℕ → Bool) (at : ℕ) (xs : List Item) (f : ℕ → ℕ) (a : ℕ) → module_area_start ≤ at → at + size_of xs ≤ system_start
    → is_module_byte a ≡ false → slid_bytes mv at at xs f a ≡ f a
slid_within mv at xs f a low high out = elim (in_range-cases module_area_start 0x403000 a) [
  | inl r ↦ absurd (both_ways (is_module_byte a) out r.0)
  | inr r ↦ elim r.1 [
    | inl less ↦ bytes_low mv at at xs f a (omega arith) (omega (arith, less, low))
    | inr past ↦ bytes_past mv at at xs f a (omega arith) (omega (arith, past, high))
  ]
]

-- a heap that lies in a block stays there, since that block does not move
stays_listed : (s : Store) (k h : HeapList) (movable : List ℕ) → HoldNoHeap s.heaps k movable → AreTotals k.items
    → find_heap h.start s.heaps ≡ Some h → 0 < h.end → (w : IsWithin k h) → is_listed movable w.block ≡ false
stays_listed s k h movable none totals found some w =
    false_from_ne_true (is_listed movable w.block) (λ is.
    let place : LiveBytes w.block w.total (k.start + 16) (k.start + 16 + size_of k.items) = law_live_bytes w.block w.total (k.start + 16) k.items totals w.live in
    let unheld : holds_heap s.heaps w.block (w.total - 4) ≡ false =
    sym (ap (λ (o : Option ℕ). holds_heap s.heaps w.block (total_or_0 o - 4)) w.live) ∙ none w.block is in
    let starts : starts_in w.block (w.total - 4) h ≡ true =
    so_starts w.block (w.total - 4) h (record { guest = w.guest; low = omega (arith, w.low); high = omega (arith, w.high, some, place.size) }) in
    both_ways (holds_heap s.heaps w.block (w.total - 4)) unheld (found_holds h.start w.block (w.total - 4) s.heaps h found starts))

slid_inner : (s : Store) (k : HeapList) (movable : List ℕ) → HasArea s k → HoldNoHeap s.heaps k movable → KeepsInner s (with_slid s k movable)
slid_inner s k movable has none h some lies still =
    let t : Store = with_slid s k movable in
    let w : IsWithin k h = within_area s k h has.found lies in
    let start : k.start ≡ module_area_start = found_start module_area_start s.heaps k has.found in
    let own : find_heap k.start s.heaps ≡ Some k = subst (λ (p : ℕ). find_heap p s.heaps ≡ Some k) (sym start) has.found in
    let aligned : k.start % 4 ≡ 0 = rw start refl in
    let mv : ℕ → Bool = is_listed movable in
    let first : ℕ = k.start + 16 in
    let items : List Item = slid mv first first k.items in
    let fixed : mv w.block ≡ false = stays_listed s k h movable none has.totals lies.found some w in
    let to : moved_to (moves_of mv first first k.items) w.block ≡ w.block = moved_stays mv first first k.items w.block fixed in
    let live : live_total w.block first items ≡ Some w.total =
    subst (λ (b : ℕ). live_total b first items ≡ Some w.total) to (slide_keeps_blocks s k movable aligned has.totals w.block w.total w.live).0 in
    record {
      lies = record {
        area = listed k items;
        round = subst (λ (p : ℕ). find_heap p t.heaps ≡ Some (listed k items)) start (found_held k.start items s.heaps k own);
        found = found_beside h.start k.start items s.heaps (λ is. inner_elsewhere s h lies (is ∙ start)) ∙ lies.found;
        within = record { guest = w.guest; block = w.block; total = w.total; live = live; low = w.low; high = w.high };
      };
      bytes = λ a here.
          let parts : (h.start ≤ a) × (a < h.start + h.end) = range_parts h.start h.end a here in
          bytes_fixed s k movable aligned has.totals w.block w.total a fixed w.live (omega (arith, parts.0, w.low)) (omega (arith, parts.1, w.high));
    }

pub slid_fit : SlidesStayFit
slid_fit limit s h movable f found none =
    let start : h.start ≡ module_area_start = found_start module_area_start s.heaps h found in
    let both : Some f.heap ≡ Some h = sym f.found ∙ found in
    let same : f.heap ≡ h = cc in
    let own : AreTotals h.items × (16 + size_of h.items ≤ limit) =
    subst (λ (x : HeapList). AreTotals x.items × (16 + size_of x.items ≤ limit)) same (f.totals, f.inside) in
    let mv : ℕ → Bool = is_listed movable in
    let first : ℕ = h.start + 16 in
    let items : List Item = slid mv first first h.items in
    let zero : (first - first) % 8 ≡ 0 = (let none : first - first ≡ 0 = omega arith in rw none refl) in
    let totals : AreTotals items = slid_totals mv first first h.items (omega arith) zero own.0 in
    let size : first + size_of items ≤ first + size_of h.items = (slide_fits mv first first h.items (omega arith)).1 in
    let inside : 16 + size_of items ≤ limit = omega (arith, size, own.1) in
    let list : IsFitStore limit (store_holding s h items) = held_is_fit limit s h items f found totals inside in
    record {
      fit = record {
        heap = list.heap;
        found = list.found;
        totals = list.totals;
        inside = list.inside;
        end = list.end;
        room = list.room;
        place = list.place;
      };
      outside = record {
        bytes = λ a out.
            words_within (slid_bytes mv first first h.items s.bytes.at) h.start h.end items a start totals (omega (arith, inside, f.room)) out
            ∙ slid_within mv first h.items s.bytes.at a (omega (arith, start)) (omega (arith, start, own.1, f.room)) out;
        heaps = λ at other still. found_beside at h.start items s.heaps (λ is. other (is ∙ start));
        anchors = λ a. refl;
        inner = slid_inner s h movable (area_of limit s h f found) none;
      };
    }
