-- Which heaps are forgotten with bytes of a block: those that have one of these, and those that start in such a heap.
use Rattle.std.proofs.Common.{ℕ, ◌≡◌, ◌≤◌, ◌<◌, ◌+◌, ◌-◌, ◌↔◌, ◌∙◌, Some, None, true, false, refl, sym, ap, inl, inr, arith}
use Rattle.std.proofs.lemmas.Bool.{both_ways, cases_Bool, cases_lt, le-leb, lt-ltb}
use Rattle.os_heap_words.specs.Bytes.{Bytes, in_range}
use Rattle.os_heap_words.specs.Items.{size_of}
use Rattle.os_heap_words.proofs.ListsLemmas.LiveBlocks.{LiveBytes, law_live_bytes}
use Rattle.os_heap_words.specs.lists.Heap.{HeapList, IsHeapIn}
use Rattle.os_heap_words.specs.lists.Lists.{live_total}
use Rattle.os_heap.proofs.Apart.{found_other, range_parts}
use Rattle.os_heap.proofs.Found.{found_heap}
use Rattle.os_heap.proofs.Nesting.{within_low}
use Rattle.os_heap.proofs.Stores.{IsOther, are_others}
use Rattle.os_heap.specs.Forgetting.{store_after_forget, lowest_lost, starts_in}
use Rattle.os_heap.specs.Laws.{IsLost}
use Rattle.os_heap.specs.Store.{IsSound, Store, find_heap, is_module_area}
use Rattle.os_heap.proofs.Forgetting.{IsIn, StartsIn, above_found, are_above, find_gone, find_left, in_block, lowest_found, lowest_least, so_starts, starts_so}

-- a heap that goes with a range, by the heap in which it starts
lost_by : (s : Store) (h k : HeapList) (block total from : ℕ) → IsSound s → find_heap h.start s.heaps ≡ Some h
    → live_total block (h.start + 16) h.items ≡ Some total → block ≤ from → find_heap k.start s.heaps ≡ Some k
    → starts_in (lowest_lost block (total - 4) from s.heaps) (block - 4 + total - lowest_lost block (total - 4) from s.heaps) k ≡ true
    → IsLost s block total from k.start
lost_by s h k block total from sound found live above found' gone =
    let low : ℕ = lowest_lost block (total - 4) from s.heaps in
    let b : Bytes = s.bytes in
    let heap : IsHeapIn b h.start h.end h.items = found_heap b h.start s.heaps h sound.heaps found in
    let other : IsHeapIn b k.start k.end k.items = found_heap b k.start s.heaps k sound.heaps found' in
    let lies : LiveBytes block total (h.start + 16) (h.start + 16 + size_of h.items) = law_live_bytes block total (h.start + 16) h.items heap.totals live in
    let range : StartsIn low (block - 4 + total - low) k = starts_so low (block - 4 + total - low) k gone in
    let least : block ≤ low = lowest_least block (total - 4) from s.heaps above in
    let starts : StartsIn block (total - 4) k = record {
      guest = range.guest;
      low = omega (arith, range.low, least);
      high = omega (arith, range.low, range.high, lies.low, lies.size);
    } in
    let own : from ≤ k.start → IsLost s block total from k.start = λ past. record {
      heap = k;
      found = found';
      starts = so_starts block (total - 4) k starts;
      freed = omega (arith, past, other.inside);
      round = rw (le-leb k.start k.start (omega arith), lt-ltb k.start (k.start + k.end) (omega (arith, other.inside))) refl;
    } in
    elim (cases_lt k.start from) [
      | inr past ↦ own past
      | inl before ↦ elim (lowest_found b block (total - 4) from s.heaps sound.heaps) [
        | inl same ↦ own (omega (arith, same, range.low))
        | inr lowest ↦ record {
          heap = lowest.heap;
          found = lowest.found;
          starts = so_starts block (total - 4) lowest.heap lowest.starts;
          freed = lowest.freed;
          round = rw (le-leb lowest.heap.start k.start (omega (arith, lowest.here, range.low)), lt-ltb k.start (lowest.heap.start + lowest.heap.end) (omega (arith, lowest.freed, before))) refl;
        }
      ]
    ]

-- the module area starts in no guest's heap
guest_inside : (s : Store) (g k : HeapList) → IsSound s → find_heap g.start s.heaps ≡ Some g → find_heap k.start s.heaps ≡ Some k
    → is_module_area g.kind ≡ false → in_range g.start g.end k.start ≡ true → is_module_area k.kind ≡ false
guest_inside s g k sound found found' guest inside =
    let b : Bytes = s.bytes in
    let heap : IsHeapIn b g.start g.end g.items = found_heap b g.start s.heaps g sound.heaps found in
    let other : IsHeapIn b k.start k.end k.items = found_heap b k.start s.heaps k sound.heaps found' in
    let parts : (g.start ≤ k.start) × (k.start < g.start + g.end) = range_parts g.start g.end k.start inside in
    let there : in_range k.start k.end k.start ≡ true =
    rw (le-leb k.start k.start (omega arith), lt-ltb k.start (k.start + k.end) (omega (arith, other.inside))) refl in
    elim (found_other g k.start s.heaps k (are_others b g.start s.heaps g sound.heaps found) found') [
      | inl same ↦ ap (λ (x : HeapList). is_module_area x.kind) same ∙ guest
      | inr apart ↦ elim apart.1 [
        | inl clear ↦ absurd (both_ways (in_range k.start k.end k.start) (clear k.start inside) there)
        | inr nested ↦ elim nested [
          | inl within ↦ within.guest
          | inr round ↦ let low = within_low b k g other round in absurd (omega (arith, low.0, parts.0))
        ]
      ]
    ]

by_lost : (s : Store) (h k : HeapList) (block total from : ℕ) → IsSound s → find_heap h.start s.heaps ≡ Some h
    → live_total block (h.start + 16) h.items ≡ Some total → find_heap k.start s.heaps ≡ Some k → IsLost s block total from k.start
    → starts_in (lowest_lost block (total - 4) from s.heaps) (block - 4 + total - lowest_lost block (total - 4) from s.heaps) k ≡ true
by_lost s h k block total from sound found live found' lost =
    let low : ℕ = lowest_lost block (total - 4) from s.heaps in
    let b : Bytes = s.bytes in
    let g : HeapList = lost.heap in
    let heap : IsHeapIn b h.start h.end h.items = found_heap b h.start s.heaps h sound.heaps found in
    let lost_heap : IsHeapIn b g.start g.end g.items = found_heap b g.start s.heaps g sound.heaps lost.found in
    let lies : LiveBytes block total (h.start + 16) (h.start + 16 + size_of h.items) = law_live_bytes block total (h.start + 16) h.items heap.totals live in
    let starts : StartsIn block (total - 4) g = starts_so block (total - 4) g lost.starts in
    let place : IsOther h g = found_other h g.start s.heaps g (are_others b h.start s.heaps h sound.heaps found) lost.found in
    let lies' : IsIn block total g = in_block b h g block total heap lost_heap live place starts in
    let parts : (g.start ≤ k.start) × (k.start < g.start + g.end) = range_parts g.start g.end k.start lost.round in
    let least : low ≤ g.start =
    above_found low block (total - 4) from g.start s.heaps g (are_above low block (total - 4) from s.heaps (omega arith)) lost.found lost.starts lost.freed in
    so_starts low (block - 4 + total - low) k (record {
      guest = guest_inside s g k sound lost.found found' starts.guest lost.round;
      low = omega (arith, least, parts.0);
      high = omega (arith, least, parts.0, parts.1, lies'.high, lies.low, lies.size);
    })

pub forgotten_lost : (s : Store) (h k : HeapList) (block total from : ℕ) → IsSound s → find_heap h.start s.heaps ≡ Some h
    → live_total block (h.start + 16) h.items ≡ Some total → block ≤ from → find_heap k.start s.heaps ≡ Some k
    → (find_heap k.start (store_after_forget s block total from).heaps ≡ None) ↔ IsLost s block total from k.start
forgotten_lost s h k block total from sound found live above found' =
    let low : ℕ = lowest_lost block (total - 4) from s.heaps in
    let len : ℕ = block - 4 + total - low in (
      λ none. elim (cases_Bool (starts_in low len k)) [
        | inl gone ↦ lost_by s h k block total from sound found live above found' gone
        | inr kept ↦ absurd (let no : None ≡ Some k = sym none ∙ find_left low len k.start s.heaps k found' kept in cc)
      ],
      λ lost. find_gone s.bytes low len k.start s.heaps k sound.heaps found' (by_lost s h k block total from sound found live found' lost),
    )
