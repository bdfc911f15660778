-- Where a call on another heap, or one that makes a heap, leaves a heap whole, that other one does
-- not lie in it, so that it is as it was.
use Rattle.std.proofs.Common.{ℕ, ◌≡◌, ◌≢◌, ◌+◌, ◌-◌, ◌≤◌, ◌<◌, ◌∙◌, true, false, [], Some, Ok, refl, sym, ap, subst, inl, inr, arith}
use Rattle.std.proofs.lemmas.Bool.{both_ways, cases_Bool, false_from_ne_true, le-leb, lt-ltb}
use Rattle.profile.specs.declared.reason.HeapReason.{HeapReason}
use Rattle.address_map.specs.Bytes.{in_range}
use Rattle.address_map.specs.Items.{size_of}
use Rattle.address_map.specs.declared.region.Kind.TheVariants as kind
use Rattle.os_heap_words.proofs.ListsLemmas.LiveBlocks.{LiveBytes, law_live_bytes}
use Rattle.os_heap_words.specs.lists.Heap.{HeapList, IsHeapIn}
use Rattle.os_heap.proofs.Apart.{found_other, range_parts}
use Rattle.os_heap.proofs.Forgetting.{own_left as heap_left, so_starts}
use Rattle.os_heap.proofs.Found.{found_ended, found_heap}
use Rattle.os_heap.proofs.Moving.{found_held}
use Rattle.os_heap.proofs.Nesting.{within_low}
use Rattle.os_heap.proofs.Stores.{are_others}
use Rattle.os_heap.specs.Calls.{store_with_new_heap, ending, store_holding}
use Rattle.os_heap.specs.Forgetting.{store_after_forget, holds_heap}
use Rattle.os_heap.specs.Store.{IsSound, Store, find_heap, is_module_area}
use Rattle.law_machine.proofs.HeapCallsLemmas.DoneCalls.{Leave, OnDone, call_done, moved_to}
use Rattle.law_machine.proofs.HeapCallsLemmas.KeptHeaps.{another, found_beside, found_left, found_more, found_past, moved_same, others_recorded}
use Rattle.law_machine.proofs.HeapCallsLemmas.Likeness.{with_last, with_list}
use Rattle.law_machine.proofs.HeapCallsLemmas.NoHeapInside.{found_holds, whole_alone, whole_recorded, more_holds}
use Rattle.law_machine.specs.heap_calls.Laws.{IsLeftWhole, KeepsHeap, starts_inside}
use Rattle.law_machine.specs.heap_calls.Lists.{is_call_to}
use Rattle.law_machine.specs.heap_calls.Turns.{call_on}

-- two heaps of a store
record HasOther (s : Store) (h k : HeapList) : Type 0 where
  sound : IsSound s
  one : find_heap h.start s.heaps ≡ Some h
  two : find_heap k.start s.heaps ≡ Some k
  apart : h.start ≢ k.start

-- the module area's heap never does
area_outside : (s : Store) (h k : HeapList) → HasOther s h k → is_module_area k.kind ≡ true → starts_inside h k.start ≡ false
area_outside s h k are area =
    let heap : IsHeapIn s.bytes h.start h.end h.items = found_heap s.bytes h.start s.heaps h are.sound.heaps are.one in
    let other : IsHeapIn s.bytes k.start k.end k.items = found_heap s.bytes k.start s.heaps k are.sound.heaps are.two in
    false_from_ne_true (starts_inside h k.start) (λ is.
    let parts : (h.start + 16 ≤ k.start) × (k.start < h.start + 16 + (h.end - 16)) = range_parts (h.start + 16) (h.end - 16) k.start is in
    let here : in_range h.start h.end k.start ≡ true =
    rw (le-leb h.start k.start (omega (arith, parts.0)), lt-ltb k.start (h.start + h.end) (omega (arith, parts.1, heap.inside))) refl in
    let there : in_range k.start k.end k.start ≡ true =
    rw (le-leb k.start k.start (omega arith), lt-ltb k.start (k.start + k.end) (omega (arith, other.inside))) refl in
    elim (found_other k h.start s.heaps h (are_others s.bytes k.start s.heaps k are.sound.heaps are.two) are.one) [
      | inl same ↦ are.apart (ap (λ (x : HeapList). x.start) same)
      | inr stand ↦ elim stand.1 [
        | inl clear ↦ both_ways (in_range h.start h.end k.start) (clear k.start there) here
        | inr nested ↦ elim nested [
          | inl within ↦
              let low : (k.start + 20 ≤ h.start) × (h.start + h.end ≤ k.start + k.end) = within_low s.bytes k h other within in
              omega (arith, low.0, parts.0)
          | inr within ↦ both_ways (is_module_area k.kind) within.guest area
        ]
      ]
    ])

-- nor does the one that was called, where no heap lies in it after the call
found_outside : (s t : Store) (h k g : HeapList) → HasOther s h k → find_heap h.start t.heaps ≡ Some h → find_heap k.start t.heaps ≡ Some g
    → g.start ≡ k.start → g.kind ≡ k.kind → IsLeftWhole t h.start → starts_inside h k.start ≡ false
found_outside s t h k g are still found start kind by = elim (cases_Bool (is_module_area k.kind)) [
  | inl area ↦ area_outside s h k are area
  | inr guest ↦ false_from_ne_true (starts_inside h k.start) (λ is.
      let parts : (h.start + 16 ≤ k.start) × (k.start < h.start + 16 + (h.end - 16)) = range_parts (h.start + 16) (h.end - 16) k.start is in
      both_ways (holds_heap t.heaps (h.start + 16) (h.end - 16)) (whole_alone t h still by)
      (found_holds k.start (h.start + 16) (h.end - 16) t.heaps g found
      (so_starts (h.start + 16) (h.end - 16) g (record {
        guest = ap is_module_area kind ∙ guest;
        low = omega (arith, parts.0, start);
        high = omega (arith, parts.1, start);
      }))))
]

called_left : (s : Store) (h k : HeapList) → HasOther s h k → Leave (λ t. IsLeftWhole t h.start → starts_inside h k.start ≡ false) s k
called_left s h k are =
    let heap : IsHeapIn s.bytes k.start k.end k.items = found_heap s.bytes k.start s.heaps k are.sound.heaps are.two in
    record {
      same = found_outside s s h k k are are.one are.two refl refl;
      held = λ items.
          found_outside s (store_holding s k items) h k (with_list k items) are (found_beside h.start k.start items s.heaps are.apart ∙ are.one)
          (found_held k.start items s.heaps k are.two) refl refl;
      lost = λ block total from items given by.
          let v : Store = store_after_forget s block total from in
          let lies : LiveBytes block total (k.start + 16) (k.start + 16 + size_of k.items) = law_live_bytes block total (k.start + 16) k.items heap.totals given.live in
          let still : find_heap h.start v.heaps ≡ Some h =
          found_left s (store_holding v k items) h k block total from items are.sound.heaps are.one are.apart refl (whole_recorded (store_holding v k items) h.start by) in
          found_outside s (store_holding v k items) h k (with_list k items) are (found_beside h.start k.start items v.heaps are.apart ∙ still)
          (found_held k.start items v.heaps k (heap_left s k block total from are.two (omega (arith, lies.low)) given.past)) refl refl by;
      moved = λ c block old new total items is given.
          let u : Store = moved_to s k c block old in
          subst (λ (v : Store). IsLeftWhole (store_holding v (with_list k c.items) items) h.start → starts_inside h k.start ≡ false)
          (sym (moved_same s k c block old new total heap is given))
          (found_outside s (store_holding u (with_list k c.items) items) h k (with_list k items) are
          (found_beside h.start k.start items u.heaps are.apart ∙ found_beside h.start k.start c.items s.heaps are.apart ∙ are.one)
          (found_held k.start items u.heaps (with_list k c.items) (found_held k.start c.items s.heaps k are.two)) refl refl);
      ended = λ end clear.
          found_outside s (ending s k end) h k (with_last k end) are (found_past h.start k.start end s.heaps are.apart ∙ are.one)
          (found_ended k.start end s.heaps k are.two) refl refl;
    }

-- nor the one that was made
begun_outside : (s : Store) (h : HeapList) (at size : ℕ) → find_heap h.start s.heaps ≡ Some h → IsLeftWhole (store_with_new_heap kind.Heap s at size) h.start
    → starts_inside h at ≡ false
begun_outside s h at size found by =
    let t : Store = store_with_new_heap kind.Heap s at size in
    let g : HeapList = record { kind = kind.Heap; start = at; end = size; items = [] } in
    false_from_ne_true (starts_inside h at) (λ is.
    both_ways (holds_heap t.heaps (h.start + 16) (h.end - 16)) (whole_alone t h (found_more h.start s.heaps h g found) by)
    (more_holds (h.start + 16) (h.end - 16) s.heaps g is))

-- so such a call leaves the heap as it was
pub others_whole : (s t : Store) (h : HeapList) (heap : ℕ) (why : HeapReason) (block size : ℕ) (answer : ℕ × ℕ) → IsSound s → IsSound t
    → find_heap h.start s.heaps ≡ Some h → is_call_to h.start heap why ≡ false → call_on s heap why block size ≡ Ok (t, answer) → IsLeftWhole t h.start
    → KeepsHeap h s t
others_whole s t h heap why block size answer sound sound' found other is by =
    let P : Store → Type 0 = λ u. IsLeftWhole u h.start → starts_inside h heap ≡ false in
    let outside : starts_inside h heap ≡ false =
    subst (OnDone (ℕ × ℕ) P) is
    (call_done P s heap why block size
    (λ on k start found'. subst (λ (p : ℕ). Leave (λ u. IsLeftWhole u h.start → starts_inside h p ≡ false) s k) start
    (called_left s h k (record { sound = sound; one = found; two = found'; apart = λ same. another h heap why other on (same ∙ start) })))
    (λ region none. begun_outside s h heap size found)) by in
    others_recorded s t h heap why block size answer sound sound' found other outside is (whole_recorded t h.start by)
