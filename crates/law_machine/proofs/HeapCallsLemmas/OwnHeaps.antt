-- A guest's heap after a call on it: it is a guest's still, without an anchor and without a heap in
-- it.
use Rattle.std.proofs.Common.{ℕ, ◌≡◌, ◌+◌, ◌-◌, ◌≤◌, ◌<◌, ◌∙◌, true, false, List, refl, sym, subst, inl, inr, arith}
use Rattle.std.specs.List.{list_any}
use Rattle.address_map.proofs.Anchors.{none_among}
use Rattle.address_map.proofs.Stores.{in_range-cases}
use Rattle.address_map.specs.Records.{anchor_among}
use Rattle.address_map.specs.declared.item.Item.{Item}
use Rattle.os_heap_words.specs.lists.Heap.{HeapList, IsHeapIn}
use Rattle.os_heap_words.specs.lists.Lists.{Claim}
use Rattle.os_heap.proofs.Apart.{range_parts}
use Rattle.os_heap.proofs.Ending.{may_grow, unobstructed}
use Rattle.os_heap.proofs.Found.{found_ended, found_heap}
use Rattle.os_heap.proofs.KeptPayloads.{IsClaim, is_claim}
use Rattle.os_heap.proofs.Moving.{found_held, held_listed}
use Rattle.os_heap.specs.Calls.{ending, has_own_size, store_holding}
use Rattle.os_heap.specs.Forgetting.{store_after_forget}
use Rattle.os_heap.specs.Ranges.{is_in_way, overgrows}
use Rattle.os_heap.specs.Store.{Store}
use Rattle.law_machine.proofs.HeapCallsLemmas.DoneCalls.{FreesBytes, Leave, OnDone, heap_done, moved_to}
use Rattle.law_machine.proofs.HeapCallsLemmas.Likeness.{with_last, with_list}
use Rattle.law_machine.proofs.HeapCallsLemmas.NoHeapInside.{held_ended, none_grown}
use Rattle.law_machine.proofs.HeapCallsLemmas.Plain.{IsBare, block_forgot}
use Rattle.law_machine.specs.heap_calls.Laws.{HasHeapStill, HeapHasNoAnchor, HoldsNoHeap, IsGuestHeap, OwnCallsKeepHeap}

-- what a heap grows by has no anchor, and nothing is in its way
unmet_growth : (s : Store) (h : HeapList) (end : ℕ) → overgrows s h end ≡ false → h.end < end
    → (list_any (is_in_way h.start end (h.start + h.end) (end - h.end)) s.heaps ≡ false) × (anchor_among s.anchor (h.start + h.end) (end - h.end) ≡ false)
unmet_growth s h end clear more =
    let none = unobstructed h.start end (h.start + h.end) (end - h.end) s (may_grow s h end clear more) in
    (none.0.0, none.1)

still_bare : (s : Store) (h : HeapList) (end : ℕ) → IsGuestHeap s h → overgrows s h end ≡ false → HeapHasNoAnchor (ending s h end) (with_last h end)
still_bare s h end guest clear a here = elim (in_range-cases h.start h.end a) [
  | inl inside ↦ guest.anchors a inside.0
  | inr out ↦
      let parts : (h.start ≤ a) × (a < h.start + end) = range_parts h.start end a here in
      let behind : h.start + h.end ≤ a = elim out.1 [ inl low ↦ absurd (omega (arith, parts.0)) | inr past ↦ past ] in
      none_among s.anchor (h.start + h.end) (end - h.end) a (unmet_growth s h end clear (omega (arith, parts.1, behind))).1 behind (omega (arith, parts.1))
]

still_alone : (s : Store) (h : HeapList) (end : ℕ) → IsGuestHeap s h → overgrows s h end ≡ false → HoldsNoHeap (ending s h end) (with_last h end)
still_alone s h end guest clear =
    held_ended h.start (h.start + 16) (end - 16) end s.heaps
    ∙ none_grown s.bytes h.start h.end end s.heaps guest.sound.heaps (λ more. (unmet_growth s h end clear more).0) guest.alone

-- and no heap is forgotten with bytes of its blocks
own_bare : (s : Store) (h : HeapList) → IsGuestHeap s h → IsBare s h
own_bare s h guest =
    let heap : IsHeapIn s.bytes h.start h.end h.items = found_heap s.bytes h.start s.heaps h guest.sound.heaps guest.found in
    record { found = guest.found; anchors = guest.anchors; alone = guest.alone; totals = heap.totals; inside = heap.inside }

held_still : (s : Store) (h : HeapList) (items : List Item) → IsBare s h → has_own_size h.kind ≡ true → HasHeapStill (store_holding s h items) h.start
held_still s h items bare own = record {
  heap = with_list h items;
  starts = refl;
  found = found_held h.start items s.heaps h bare.found;
  own = own;
  anchors = bare.anchors;
  alone = held_listed h.start (h.start + 16) (h.end - 16) items s.heaps ∙ bare.alone;
}

moved_bare : (s : Store) (h : HeapList) (c : Claim) (block old new : ℕ) → IsGuestHeap s h → IsClaim h new c → IsBare (moved_to s h c block old) (with_list h c.items)
moved_bare s h c block old new guest claim = record {
  found = found_held h.start c.items s.heaps h guest.found;
  anchors = guest.anchors;
  alone = held_listed h.start (h.start + 16) (h.end - 16) c.items s.heaps ∙ guest.alone;
  totals = claim.totals;
  inside = claim.inside;
}

left_still : (s : Store) (h : HeapList) (block total from : ℕ) (items : List Item) → IsBare s h → has_own_size h.kind ≡ true → FreesBytes h block total from
    → HasHeapStill (store_holding (store_after_forget s block total from) h items) h.start
left_still s h block total from items bare own given =
    subst (λ (v : Store). HasHeapStill (store_holding v h items) h.start) (sym (block_forgot s h block total from bare given.live given.past))
    (held_still s h items bare own)

own_left : (s : Store) (h : HeapList) → IsGuestHeap s h → Leave (λ t. HasHeapStill t h.start) s h
own_left s h guest =
    let heap : IsHeapIn s.bytes h.start h.end h.items = found_heap s.bytes h.start s.heaps h guest.sound.heaps guest.found in
    record {
      same = record { heap = h; starts = refl; found = guest.found; own = guest.own; anchors = guest.anchors; alone = guest.alone };
      held = λ items. held_still s h items (own_bare s h guest) guest.own;
      lost = λ block total from items given. left_still s h block total from items (own_bare s h guest) guest.own given;
      moved = λ c block old new total items is given.
          left_still (moved_to s h c block old) (with_list h c.items) block total block items
          (moved_bare s h c block old new guest (is_claim s.bytes h new c heap is.total is.claim)) guest.own given;
      ended = λ end clear. record {
        heap = with_last h end;
        starts = refl;
        found = found_ended h.start end s.heaps h guest.found;
        own = guest.own;
        anchors = still_bare s h end guest clear;
        alone = still_alone s h end guest clear;
      };
    }

pub own_kept : OwnCallsKeepHeap
own_kept s t h why block size answer guest on is =
    subst (OnDone (ℕ × ℕ) (λ u. HasHeapStill u h.start)) is (heap_done (λ u. HasHeapStill u h.start) s h why block size on guest.found (own_left s h guest))
