-- Heaps that lie in live blocks of the module area, over the heap calls on it, in stores that need
-- not be sound: where such a heap is not forgotten it lies in a live block still, and no byte of it
-- is another.
use Rattle.profile.specs.MemoryMap.{module_area_start}
use Rattle.std.proofs.Common.{ℕ, ◌≡◌, ◌≢◌, ◌+◌, ◌-◌, ◌%◌, ◌≤◌, ◌<◌, ◌∙◌, true, false, List, Some, is_some, refl, sym, ap, subst, inl, inr, arith}
use Rattle.std.proofs.lemmas.Bool.{both_ways, cases_eq, cases_lt, false_from_ne_true, false≢true, le-leb, lt-ltb}
use Rattle.address_map.specs.Bytes.{Bytes, in_range}
use Rattle.address_map.specs.Items.{is_total, size_of}
use Rattle.address_map.specs.declared.item.Item.{Item}
use Rattle.os_heap_words.proofs.ListsLemmas.ClaimedLists.{HasTotals, IsUnheld, claim_totals, claim_unheld}
use Rattle.os_heap_words.proofs.ListsLemmas.LinkWalk.{live_low}
use Rattle.os_heap_words.proofs.ListsLemmas.LiveBlocks.{IsFresh, IsStill, IsStillIn, LiveBytes, claim_fresh, claim_still, live_apart, law_live_bytes, refit_own, refit_still, release_still}
use Rattle.os_heap_words.proofs.ListsLemmas.Payloads.{heap_beside, payload_unspelled}
use Rattle.os_heap_words.proofs.ListsLemmas.Reading.{total_facts}
use Rattle.os_heap_words.specs.lists.Heap.{AreTotals, HeapList}
use Rattle.os_heap_words.specs.lists.Lists.{Claim, claim_in_items, live_total, items_after_release, resized_in_place}
use Rattle.os_heap.proofs.Apart.{range_parts}
use Rattle.os_heap.proofs.Forgetting.{IsAbove, StartsIn, above_found, are_above, lowest_least, lowest_most, own_left as heap_left, so_starts}
use Rattle.os_heap.proofs.Found.{found_start}
use Rattle.os_heap.proofs.Moving.{found_held}
use Rattle.os_heap.proofs.Nesting.{listed}
use Rattle.os_heap.specs.Calls.{store_after_copy, ending, store_holding}
use Rattle.os_heap.specs.Forgetting.{store_after_forget, lowest_lost}
use Rattle.os_heap.specs.Nesting.{IsWithin}
use Rattle.os_heap.specs.Store.{StandAreas, Store, find_heap}
use Rattle.dynamic_areas.proofs.ModuleArea.{find_ended}
use Rattle.law_machine.proofs.HeapFrameLemmas.FoundHeaps.{IsLeftIn, left_in}
use Rattle.law_machine.specs.heap_frame.Fits.{KeepsInner, LiesInArea, StaysInArea}
use Rattle.law_machine.proofs.HeapCallsLemmas.KeptHeaps.{found_beside, found_past}
use Rattle.law_machine.specs.heap_calls.Laws.{IsNotForgotten}
use Rattle.rma.proofs.NewImageLemmas.{shorter}

-- what is known of the store
pub record HasArea (s : Store) (k : HeapList) : Type 0 where
  pub found : find_heap module_area_start s.heaps ≡ Some k
  pub totals : AreTotals k.items
  pub place : StandAreas s.heaps

area_start : (s : Store) (k : HeapList) → HasArea s k → k.start ≡ module_area_start
area_start s k has = found_start module_area_start s.heaps k has.found

area_own : (s : Store) (k : HeapList) → HasArea s k → find_heap k.start s.heaps ≡ Some k
area_own s k has = subst (λ (p : ℕ). find_heap p s.heaps ≡ Some k) (sym (area_start s k has)) has.found

-- such a heap starts after the module area's place
pub inner_low : (s : Store) (h : HeapList) → LiesInArea s h → 0x01800014 ≤ h.start
inner_low s h lies =
    let low : lies.area.start + 16 + 4 ≤ lies.within.block =
    live_low lies.within.block (lies.area.start + 16) lies.area.items (ap is_some lies.within.live) in
    omega (arith, low, found_start module_area_start s.heaps lies.area lies.round, lies.within.low)

pub inner_elsewhere : (s : Store) (h : HeapList) → LiesInArea s h → h.start ≢ module_area_start
inner_elsewhere s h lies = λ same. omega (arith, inner_low s h lies, same)

-- and lies in the one heap round it
same_area : (s : Store) (k g : HeapList) → find_heap module_area_start s.heaps ≡ Some k → find_heap module_area_start s.heaps ≡ Some g → g ≡ k
same_area s k g one two = let both : Some k ≡ Some g = sym one ∙ two in cc

pub within_area : (s : Store) (k h : HeapList) → find_heap module_area_start s.heaps ≡ Some k → LiesInArea s h → IsWithin k h
within_area s k h found lies = subst (λ (x : HeapList). IsWithin x h) (same_area s k lies.area found lies.round) lies.within

-- the heap round it gets a list in which it lies
inner_start : (k h : HeapList) → AreTotals k.items → IsWithin k h → k.start + 20 ≤ h.start
inner_start k h totals within =
    let place : LiveBytes within.block within.total (k.start + 16) (k.start + 16 + size_of k.items) =
    law_live_bytes within.block within.total (k.start + 16) k.items totals within.live in
    omega (arith, place.low, within.low)

aligned_area : (k : HeapList) → k.start ≡ module_area_start → k.start % 4 ≡ 0
aligned_area k start = rw start refl

held_inner : (s v : Store) (k h : HeapList) (items : List Item) → v.bytes ≡ s.bytes → find_heap k.start v.heaps ≡ Some k → k.start ≡ module_area_start
    → find_heap h.start v.heaps ≡ Some h → AreTotals items → IsWithin (listed k items) h → StaysInArea h s (store_holding v k items)
held_inner s v k h items same found start found' totals within =
    let t : Store = store_holding v k items in
    let low : k.start + 20 ≤ h.start = inner_start (listed k items) h totals within in
    record {
      lies = record {
        area = listed k items;
        round = subst (λ (p : ℕ). find_heap p t.heaps ≡ Some (listed k items)) start (found_held k.start items v.heaps k found);
        found = found_beside h.start k.start items v.heaps (λ is. omega (arith, low, is)) ∙ found';
        within = within;
      };
      bytes = λ a here.
          let parts : (h.start ≤ a) × (a < h.start + h.end) = range_parts h.start h.end a here in
          heap_beside v.bytes.at k.start k.end items a (aligned_area k start) totals
          (payload_unspelled k.start items within.block within.total a (aligned_area k start) totals within.live (omega (arith, parts.0, within.low))
          (omega (arith, parts.1, within.high)))
          ∙ ap (λ (b : Bytes). b.at a) same;
    }

-- where the heap is found after the call, it was not forgotten before
still_before : (v : Store) (k h : HeapList) (items : List Item) → h.start ≢ k.start → IsNotForgotten (store_holding v k items) h.start → IsNotForgotten v h.start
still_before v k h items other still = sym (ap is_some (found_beside h.start k.start items v.heaps other)) ∙ still

-- a list in which all blocks stay
pub claimed_inner : (s : Store) (k : HeapList) (new : ℕ) (c : Claim) → HasArea s k → is_total new ≡ true → claim_in_items new (k.end - 16) k.items ≡ Some c
    → KeepsInner s (store_holding s k c.items)
claimed_inner s k new c has total is h some lies still =
    let w : IsWithin k h = within_area s k h has.found lies in
    held_inner s s k h c.items refl (area_own s k has) (area_start s k has) lies.found
    (subst HasTotals is (claim_totals new (k.end - 16) k.items total has.totals))
    (record {
      guest = w.guest;
      block = w.block;
      total = w.total;
      live = subst (IsStill w.block w.total (k.start + 16)) is (claim_still new (k.end - 16) w.block w.total (k.start + 16) k.items w.live has.totals);
      low = w.low;
      high = w.high;
    })

-- a block that is given back
pub freed_inner : (s : Store) (k : HeapList) (block total : ℕ) (items : List Item) → HasArea s k → live_total block (k.start + 16) k.items ≡ Some total
    → items_after_release block (k.start + 16) k.items ≡ Some items → AreTotals items → KeepsInner s (store_holding (store_after_forget s block total block) k items)
freed_inner s k block total items has live is totals h some lies still =
    let w : IsWithin k h = within_area s k h has.found lies in
    let start : k.start ≡ module_area_start = area_start s k has in
    let low : k.start + 20 ≤ h.start = inner_start k h has.totals w in
    let v : Store = store_after_forget s block total block in
    let place : LiveBytes block total (k.start + 16) (k.start + 16 + size_of k.items) = law_live_bytes block total (k.start + 16) k.items has.totals live in
    let still' : IsNotForgotten v h.start = still_before v k h items (λ e. omega (arith, low, e)) still in
    let left : IsLeftIn s block total block h.start = left_in s block total block h.start has.place (λ e. omega (arith, low, start, e)) still' in
    let least : ℕ = lowest_lost block (total - 4) block s.heaps in
    let above : block ≤ least = lowest_least block (total - 4) block s.heaps (omega arith) in
    let most : least ≤ block = lowest_most block (total - 4) block s.heaps in
    let other : w.block ≢ block = λ (e : w.block ≡ block).
    let both : Some w.total ≡ Some total = sym (subst (λ (x : ℕ). live_total x (k.start + 16) k.items ≡ Some w.total) e w.live) ∙ live in
    let size : w.total ≡ total = cc in
    both_ways (in_range least (block - 4 + total - least) h.start) left.out
    (rw (
      le-leb least h.start (omega (arith, most, e, w.low)),
      lt-ltb h.start (least + (block - 4 + total - least)) (omega (arith, above, most, e, size, w.low, w.high, some, place.low, place.size)),
    ) refl) in
    let own : find_heap k.start v.heaps ≡ Some k = heap_left s k block total block (area_own s k has) (omega (arith, place.low)) (omega arith) in
    held_inner s v k h items refl own start (left.found ∙ lies.found) totals
    (record {
      guest = w.guest;
      block = w.block;
      total = w.total;
      live = subst (IsStillIn w.block w.total (k.start + 16)) is (release_still w.block block w.total (k.start + 16) k.items other w.live);
      low = w.low;
      high = w.high;
    })

-- one that is cut, or grows where it stands
pub refitted_inner : (s : Store) (k : HeapList) (block old new : ℕ) (items : List Item) → HasArea s k → live_total block (k.start + 16) k.items ≡ Some old
    → is_total new ≡ true → resized_in_place block (k.start + k.end) new (k.start + 16) k.items ≡ Some items → AreTotals items
    → KeepsInner s (store_holding (store_after_forget s block old (block - 4 + new)) k items)
refitted_inner s k block old new items has live good is totals h some lies still =
    let w : IsWithin k h = within_area s k h has.found lies in
    let from : ℕ = block - 4 + new in
    let start : k.start ≡ module_area_start = area_start s k has in
    let low : k.start + 20 ≤ h.start = inner_start k h has.totals w in
    let v : Store = store_after_forget s block old from in
    let place : LiveBytes block old (k.start + 16) (k.start + 16 + size_of k.items) = law_live_bytes block old (k.start + 16) k.items has.totals live in
    let eight : 8 ≤ new = (total_facts new good).0 in
    let still' : IsNotForgotten v h.start = still_before v k h items (λ e. omega (arith, low, e)) still in
    let left : IsLeftIn s block old from h.start = left_in s block old from h.start has.place (λ e. omega (arith, low, start, e)) still' in
    let least : ℕ = lowest_lost block (old - 4) from s.heaps in
    let own : find_heap k.start v.heaps ≡ Some k = heap_left s k block old from (area_own s k has) (omega (arith, place.low)) (omega (arith, eight)) in
    held_inner s v k h items refl own start (left.found ∙ lies.found) totals
    (elim (cases_eq w.block block) [
      | inr other ↦ record {
        guest = w.guest;
        block = w.block;
        total = w.total;
        live = subst (IsStillIn w.block w.total (k.start + 16)) is
            (refit_still w.block block w.total (k.start + k.end) new (k.start + 16) k.items other w.live);
        low = w.low;
        high = w.high;
      }
      | inl e ↦
          let both : Some w.total ≡ Some old = sym (subst (λ (x : ℕ). live_total x (k.start + 16) k.items ≡ Some w.total) e w.live) ∙ live in
          let size : w.total ≡ old = cc in
          let ends : h.start + h.end ≤ from = elim (cases_lt from (h.start + h.end)) [
            | inr ends ↦ ends
            | inl past ↦
                let above : IsAbove least block (old - 4) from h =
                above_found least block (old - 4) from h.start s.heaps h (are_above least block (old - 4) from s.heaps (omega arith)) lies.found in
                let starts : StartsIn block (old - 4) h =
                record { guest = w.guest; low = omega (arith, e, w.low); high = omega (arith, e, size, w.high, some, place.low, place.size) } in
                let after : least ≤ h.start = above (so_starts block (old - 4) h starts) past in
                absurd (both_ways (in_range least (block - 4 + old - least) h.start) left.out
                (rw (
                  le-leb least h.start after,
                  lt-ltb h.start (least + (block - 4 + old - least)) (omega (arith, after, starts.high, place.low, place.size)),
                ) refl))
          ] in
          record {
            guest = w.guest;
            block = block;
            total = new;
            live = subst (IsStillIn block new (k.start + 16)) is (refit_own block (k.start + k.end) new (k.start + 16) k.items);
            low = omega (arith, e, w.low);
            high = omega (arith, ends, place.low, eight);
          }
    ])

-- one step after another
pub inner_both : (s t u : Store) → KeepsInner s t → KeepsInner t u
    → ((h : HeapList) → LiesInArea s h → IsNotForgotten u h.start → IsNotForgotten t h.start) → KeepsInner s u
inner_both s t u one two still h some lies last =
    let first : StaysInArea h s t = one h some lies (still h lies last) in
    let second : StaysInArea h t u = two h some first.lies last in
    record { lies = second.lies; bytes = λ a here. second.bytes a here ∙ first.bytes a here }

-- bytes are written that are none of its
pub written_inner : (s : Store) (c : Bytes) → ((h : HeapList) (a : ℕ) → LiesInArea s h → in_range h.start h.end a ≡ true → c.at a ≡ s.bytes.at a)
    → KeepsInner s (record s { bytes = c })
written_inner s c same h some lies still = record {
  lies = record { area = lies.area; round = lies.round; found = lies.found; within = lies.within };
  bytes = λ a here. same h a lies here;
}

-- as those are of the block that a claim makes
pub claimed_beside : (s : Store) (k : HeapList) (new : ℕ) (c : Claim) → HasArea s k → is_total new ≡ true
    → claim_in_items new (k.end - 16) k.items ≡ Some c → (h : HeapList) (a : ℕ) → LiesInArea s h → in_range h.start h.end a ≡ true
    → in_range (k.start + 16 + c.offset + 4) (new - 4) a ≡ false
claimed_beside s k new c has good is h a lies here =
    let w : IsWithin k h = within_area s k h has.found lies in
    let at : ℕ = k.start + 16 + c.offset + 4 in
    let totals : AreTotals c.items = subst HasTotals is (claim_totals new (k.end - 16) k.items good has.totals) in
    let fresh : live_total at (k.start + 16) c.items ≡ Some new =
    subst (IsFresh new (k.start + 16)) is (claim_fresh new (k.end - 16) (k.start + 16) k.items has.totals) in
    let unheld : is_some (live_total at (k.start + 16) k.items) ≡ false =
    subst (IsUnheld (k.start + 16) k.items) is (claim_unheld new (k.end - 16) (k.start + 16) k.items has.totals) in
    let live : live_total w.block (k.start + 16) c.items ≡ Some w.total =
    subst (IsStill w.block w.total (k.start + 16)) is (claim_still new (k.end - 16) w.block w.total (k.start + 16) k.items w.live has.totals) in
    let byte : (h.start ≤ a) × (a < h.start + h.end) = range_parts h.start h.end a here in
    false_from_ne_true (in_range at (new - 4) a) (λ there.
    let target : (at ≤ a) × (a < at + (new - 4)) = range_parts at (new - 4) a there in
    let other : w.block ≢ at = λ (e : w.block ≡ at).
    false≢true (sym unheld ∙ ap is_some (subst (λ (p : ℕ). live_total p (k.start + 16) k.items ≡ Some w.total) e w.live)) in
    elim (live_apart w.block w.total at new (k.start + 16) c.items totals live fresh other) [
      | inl low ↦ omega (arith, low, byte.1, w.high, target.0)
      | inr high ↦ omega (arith, high, byte.0, w.low, target.1)
    ])

-- the list after the claim, and the bytes copied
pub carried_inner : (s : Store) (k : HeapList) (old new block : ℕ) (c : Claim) → HasArea s k → is_total new ≡ true → old ≤ new
    → claim_in_items new (k.end - 16) k.items ≡ Some c
    → KeepsInner s (store_after_copy (store_holding s k c.items) block (k.start + 16 + c.offset + 4) (old - 4))
carried_inner s k old new block c has good less is h some lies still =
    let at : ℕ = k.start + 16 + c.offset + 4 in
    let one : StaysInArea h s (store_holding s k c.items) = claimed_inner s k new c has good is h some lies still in
    record {
      lies = record { area = one.lies.area; round = one.lies.round; found = one.lies.found; within = one.lies.within };
      bytes = λ a here.
          let apart : in_range at (old - 4) a ≡ false =
          shorter at (old - 4) (new - 4) a (omega (arith, less)) (claimed_beside s k new c has good is h a lies here) in
          (rw apart refl) ∙ one.bytes a here;
    }

-- the heap round it gets another end, and keeps its items
pub ended_inner : (s : Store) (k : HeapList) (end : ℕ) → HasArea s k → KeepsInner s (ending s k end)
ended_inner s k end has h some lies still =
    let w : IsWithin k h = within_area s k h has.found lies in
    let start : k.start ≡ module_area_start = area_start s k has in
    let low : k.start + 20 ≤ h.start = inner_start k h has.totals w in
    record {
      lies = record {
        area = record { kind = k.kind; start = k.start; end = end; items = k.items };
        round = find_ended s.heaps k module_area_start end has.found;
        found = found_past h.start k.start end s.heaps (λ e. omega (arith, low, e)) ∙ lies.found;
        within = record { guest = w.guest; block = w.block; total = w.total; live = w.live; low = w.low; high = w.high };
      };
      bytes = λ a here.
          let parts : (h.start ≤ a) × (a < h.start + h.end) = range_parts h.start h.end a here in
          heap_beside s.bytes.at k.start end k.items a (aligned_area k start) has.totals
          (payload_unspelled k.start k.items w.block w.total a (aligned_area k start) has.totals w.live (omega (arith, parts.0, w.low))
          (omega (arith, parts.1, w.high)));
    }
