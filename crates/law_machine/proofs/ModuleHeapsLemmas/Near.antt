-- A block in which a guest's heap starts was live before a claim too.
use Rattle.profile.specs.MemoryMap.{module_area_start}
use Rattle.std.proofs.Common.{ℕ, ◌+◌, ◌-◌, ◌≡◌, ◌≤◌, ◌<◌, ◌∙◌, true, Some, sym, ap, subst, refl, inl, inr, arith}
use Rattle.std.proofs.lemmas.Bool.{both_ways, cases_eq, le-leb, lt-ltb}
use Rattle.address_map.specs.Bytes.{in_range}
use Rattle.address_map.specs.Items.{size_of}
use Rattle.os_heap_words.proofs.ListsLemmas.LiveBlocks.{LiveBytes, law_live_bytes, live_apart}
use Rattle.os_heap_words.specs.lists.Heap.{HeapList, IsHeapIn}
use Rattle.os_heap_words.specs.lists.Lists.{live_total}
use Rattle.os_heap.proofs.Apart.{range_parts}
use Rattle.os_heap.proofs.Found.{found_heap, found_start}
use Rattle.os_heap.specs.Store.{Store}
use Rattle.dynamic_areas.specs.Ground.{AreaStore}
use Rattle.law_machine.proofs.HeapFrameLemmas.Guests.{guests_outside}
use Rattle.law_machine.specs.heap_frame.BlockLaws.{StayLive, block_total, total_in}
use Rattle.law_machine.specs.heap_frame.Fits.{IsFitStore, LiesInArea, is_module_byte}
use Rattle.law_machine.specs.heap_frame.GuestLaws.{HasGuestHeap}

-- where a live block's bytes lie
record SpansBytes (block total : ℕ) : Type 0 where
  low : module_area_start ≤ block
  high : block + total ≤ module_area_start + 0x400000 + 4
  size : 8 ≤ total

spans_bytes : (limit block total : ℕ) (s : Store) → IsFitStore limit s → block_total s block ≡ Some total → SpansBytes block total
spans_bytes limit block total s f live =
    let start : f.heap.start ≡ module_area_start = found_start module_area_start s.heaps f.heap f.found in
    let live' : live_total block (f.heap.start + 16) f.heap.items ≡ Some total = sym (ap (total_in block) f.found) ∙ live in
    let place : LiveBytes block total (f.heap.start + 16) (f.heap.start + 16 + size_of f.heap.items) =
    law_live_bytes block total (f.heap.start + 16) f.heap.items f.totals live' in
    record {
      low = omega (arith, place.low, start);
      high = omega (arith, place.high, start, f.inside, f.room);
      size = place.size;
    }

-- two live blocks with a byte in common are one
one_of_two : (limit a block total other n : ℕ) (s : Store) → IsFitStore limit s → block_total s block ≡ Some total → block_total s other ≡ Some n
    → in_range block (total - 4) a ≡ true → other ≤ a → a + 4 < other + n → other ≡ block
one_of_two limit a block total other n s f live live' inside low high = elim (cases_eq other block) [
  | inl same ↦ same
  | inr apart ↦
      let one : live_total block (f.heap.start + 16) f.heap.items ≡ Some total = sym (ap (total_in block) f.found) ∙ live in
      let two : live_total other (f.heap.start + 16) f.heap.items ≡ Some n = sym (ap (total_in other) f.found) ∙ live' in
      let parts : (block ≤ a) × (a < block + (total - 4)) = range_parts block (total - 4) a inside in
      absurd (elim (live_apart other n block total (f.heap.start + 16) f.heap.items f.totals two one apart) [
        | inl before ↦ omega (arith, before, parts.0, high)
        | inr behind ↦ omega (arith, behind, parts.1, low)
      ])
]

module _ (limit : ℕ) (e : AreaStore) (k : HeapList) (t : Store) (guest : HasGuestHeap e k) (f : IsFitStore limit t) (stay : StayLive e.store t) (block total : ℕ)
    (live : block_total t block ≡ Some total) (inside : in_range block (total - 4) k.start ≡ true) where
  heap : IsHeapIn e.store.bytes k.start k.end k.items
  heap = found_heap e.store.bytes k.start e.store.heaps k guest.area_store.ground.sound.heaps guest.found

  within_area : is_module_byte k.start ≡ true
  within_area =
      let spans : SpansBytes block total = spans_bytes limit block total t f live in
      let parts : (block ≤ k.start) × (k.start < block + (total - 4)) = range_parts block (total - 4) k.start inside in
      rw (le-leb module_area_start k.start (omega (arith, spans.low, parts.0)), lt-ltb k.start (module_area_start + 0x403000) (omega (arith, spans.high, spans.size, parts.1))) refl

  by_block : LiesInArea e.store k → block_total e.store block ≡ Some total
  by_block lies =
      let was : block_total e.store lies.within.block ≡ Some lies.within.total = ap (total_in lies.within.block) lies.round ∙ lies.within.live in
      let still : block_total t lies.within.block ≡ Some lies.within.total = (stay lies.within.block lies.within.total was).0 in
      let some : 16 ≤ k.end = omega (arith, heap.inside) in
      let same : lies.within.block ≡ block =
      one_of_two limit k.start block total lies.within.block lies.within.total t f live still inside lies.within.low (omega (arith, lies.within.high, some)) in
      let still' : block_total t block ≡ Some lies.within.total = subst (λ (b : ℕ). block_total t b ≡ Some lies.within.total) same still in
      let both : Some total ≡ Some lies.within.total = sym live ∙ still' in
      let size : lies.within.total ≡ total = cc in
      subst (λ (b : ℕ). block_total e.store b ≡ Some total) same (was ∙ ap (λ (n : ℕ). Some n) size)

  pub was_live : block_total e.store block ≡ Some total
  was_live = elim (guests_outside e k guest) [
    | inl outside ↦
        let own : in_range k.start k.end k.start ≡ true = rw (le-leb k.start k.start (omega arith), lt-ltb k.start (k.start + k.end) (omega (arith, heap.inside))) refl in
        absurd (both_ways (is_module_byte k.start) (outside k.start own) within_area)
    | inr lies ↦ by_block lies
  ]
