-- Over a call of OS_Heap, what live blocks hold stays, but for what the call writes in a block that
-- its heap lies in.
use Rattle.profile.specs.MemoryMap.{system_start}
use Rattle.std.proofs.Common.{ℕ, ◌≡◌, ◌≢◌, ◌+◌, ◌-◌, ◌≤◌, ◌<◌, ◌∙◌, ◌⊎◌, Bool, true, false, List, Option, Some, None, refl, sym, ap, subst, inl, inr, arith}
use Rattle.std.proofs.lemmas.Bool.{both_ways, cases_Bool, cases_eq, false_from_ne_true}
use Rattle.profile.specs.SwiNames.{swi_of}
use Rattle.profile.specs.declared.swi.SwiName.TheVariants as swi
use Rattle.address_map.specs.Bytes.{in_range}
use Rattle.arm_core.specs.State.{register_of}
use Rattle.profile.specs.images.Entries.{Entry}
use Rattle.os_heap_words.specs.lists.Heap.{HeapList, IsHeapIn}
use Rattle.os_heap_words.specs.lists.Lists.{live_total}
use Rattle.os_heap.proofs.Apart.{found_other, range_parts}
use Rattle.os_heap.proofs.Found.{found_heap, found_start}
use Rattle.os_heap.proofs.Nesting.{within_low}
use Rattle.os_heap.proofs.Stores.{IsOther, are_others}
use Rattle.os_heap.specs.Nesting.{IsWithin}
use Rattle.os_heap.specs.Store.{IsSound, Store, find_heap}
use Rattle.law_machine.specs.heap_calls.Laws.{starts_inside}
use Rattle.swi_dispatch_guest.specs.MachineState.{MachineState}
use Rattle.swi_dispatch_guest.specs.Step.{outcome_of_call}
use Rattle.law_machine.proofs.HeapAloneLemmas.Keeping.{off_system}
use Rattle.law_machine.proofs.HeapAloneLemmas.LiveBytes.{HeapCallLeaves, heap_call_leaves, payload_inside}
use Rattle.law_machine.proofs.LiveBytesLemmas.HeapCalls.{heap_call_leaves_byte}
use Rattle.law_machine.proofs.LiveBytesLemmas.Heaps.{HasHeaps, held_inside, held_recorded, own_found}
use Rattle.law_machine.specs.live_bytes.Changes.{IsByteHeld, IsOfInnerHeap}
use Rattle.law_machine.specs.live_bytes.HeapWrites.{IsWrittenByCall}

-- The byte is in the range of the heap called, which lies in a block.
record IsInInnerHeap (t : Store) (heap start a : ℕ) : Type 0 where
  inner : HeapList
  called : find_heap heap t.heaps ≡ Some inner
  outer : HeapList
  round : find_heap start t.heaps ≡ Some outer
  within : IsWithin outer inner
  inside : in_range inner.start inner.end a ≡ true

module _ (s : MachineState) (has : HasHeaps s) (t : Store) (heap start a : ℕ) (left : HeapCallLeaves s.store heap t) (sound : IsSound t)
    (held : IsByteHeld s.store t start a) where
  old_start : held.old.start ≡ start
  old_start = found_start start s.store.heaps held.old held.found

  new_start : held.new.start ≡ start
  new_start = found_start start t.heaps held.new held.left

  -- of the heap called, or none of its bytes
  payload : (held.old.start ≡ heap) ⊎ ((k : HeapList) → find_heap heap t.heaps ≡ Some k → in_range k.start k.end a ≡ false)
      → t.bytes.at a ≡ s.store.bytes.at a
  payload apart =
      left.payloads held.old held.new held.block held.total held.new_total a (own_found s.store t start a held)
      (subst (λ (p : ℕ). find_heap p t.heaps ≡ Some held.new) (sym old_start) held.left)
      (subst (λ (p : ℕ). live_total held.block (p + 16) held.old.items ≡ Some held.total) (sym old_start) held.live)
      (subst (λ (p : ℕ). live_total held.block (p + 16) held.new.items ≡ Some held.new_total) (sym old_start) held.stays) held.here held.there apart

  -- a byte of the heap called
  module _ (k : HeapList) (found : find_heap heap t.heaps ≡ Some k) (other : start ≢ heap) (inside : in_range k.start k.end a ≡ true) where
    start_of : k.start ≡ heap
    start_of = found_start heap t.heaps k found

    own : find_heap k.start t.heaps ≡ Some k
    own = subst (λ (p : ℕ). find_heap p t.heaps ≡ Some k) (sym start_of) found

    spelled : IsHeapIn t.bytes k.start k.end k.items
    spelled = found_heap t.bytes k.start t.heaps k sound.heaps own

    here : in_range held.new.start held.new.end a ≡ true
    here =
        payload_inside t held.new held.block held.new_total a sound (subst (λ (p : ℕ). find_heap p t.heaps ≡ Some held.new) (sym new_start) held.left)
        (subst (λ (p : ℕ). live_total held.block (p + 16) held.new.items ≡ Some held.new_total) (sym new_start) held.stays) held.there

    -- where that one lies round the block's heap, it changes no byte of it
    round_byte : IsWithin k held.new → t.bytes.at a ≡ s.store.bytes.at a
    round_byte within =
        let low : (k.start + 20 ≤ held.new.start) × (held.new.start + held.new.end ≤ k.start + k.end) = within_low t.bytes k held.new spelled within in
        let outside : starts_inside held.old heap ≡ false = false_from_ne_true (starts_inside held.old heap) (λ is.
        let parts : (held.old.start + 16 ≤ heap) × (heap < held.old.start + 16 + (held.old.end - 16)) =
        range_parts (held.old.start + 16) (held.old.end - 16) heap is in
        omega (arith, parts.0, low.0, old_start, new_start, start_of)) in
        (left.others held.old (own_found s.store t start a held) (λ same. other (sym old_start ∙ same)) outside (held_recorded s.store t start a held)).bytes a
        (held_inside s t start a has held)

    shared_byte : IsOther k held.new → (t.bytes.at a ≡ s.store.bytes.at a) ⊎ IsInInnerHeap t heap start a
    shared_byte (inl same) = absurd (other (sym new_start ∙ ap (λ (x : HeapList). x.start) same ∙ start_of))
    shared_byte (inr (apart, inl clear)) = absurd (both_ways (in_range held.new.start held.new.end a) (clear a inside) here)
    shared_byte (inr (apart, inr (inl round))) = inl (round_byte round)
    shared_byte (inr (apart, inr (inr within))) =
        inr (record { inner = k; called = found; outer = held.new; round = held.left; within = within; inside = inside })

  by_found : (o : Option HeapList) → find_heap heap t.heaps ≡ o → start ≢ heap
      → (t.bytes.at a ≡ s.store.bytes.at a) ⊎ IsInInnerHeap t heap start a
  by_found None none other = inl (payload (inr (λ k found. absurd (let no : None ≡ Some k = sym none ∙ found in cc))))
  by_found (Some k) found other = elim (cases_Bool (in_range k.start k.end a)) [
    | inl inside ↦
        shared_byte k found other inside
        (found_other k start t.heaps held.new (are_others t.bytes k.start t.heaps k sound.heaps (own k found other inside)) held.left)
    | inr out ↦ inl (payload (inr (λ g found'.
        let both : Some k ≡ Some g = sym found ∙ found' in
        let same : k ≡ g = cc in
        subst (λ (x : HeapList). in_range x.start x.end a ≡ false) same out)))
  ]

  left_byte : (t.bytes.at a ≡ s.store.bytes.at a) ⊎ IsInInnerHeap t heap start a
  left_byte = elim (cases_eq start heap) [
    | inl at ↦ inl (payload (inl (old_start ∙ at)))
    | inr other ↦ by_found (find_heap heap t.heaps) refl other
  ]

-- and it is one that the call writes
module _ (s : MachineState) (t : MachineState) (start a : ℕ) where
  written_there : IsInInnerHeap t.store (register_of s.cpu 1) start a → (t.store.bytes.at a ≡ s.store.bytes.at a) ⊎ IsWrittenByCall s.cpu s.store t a
      → (t.store.bytes.at a ≡ s.store.bytes.at a) ⊎ IsOfInnerHeap (Some swi.Heap) s.cpu s.store t start a
  written_there lies (inl same) = inl same
  written_there lies (inr written) = inr (record {
    call = refl;
    inner = lies.inner;
    called = lies.called;
    outer = lies.outer;
    round = lies.round;
    within = lies.within;
    inside = lies.inside;
    written = written;
  })

  left_or_written : (t.store.bytes.at a ≡ s.store.bytes.at a) ⊎ IsInInnerHeap t.store (register_of s.cpu 1) start a
      → (t.store.bytes.at a ≡ s.store.bytes.at a) ⊎ IsWrittenByCall s.cpu s.store t a
      → (t.store.bytes.at a ≡ s.store.bytes.at a) ⊎ IsOfInnerHeap (Some swi.Heap) s.cpu s.store t start a
  left_or_written (inl same) written = inl same
  left_or_written (inr lies) written = written_there lies written

pub heap_byte : (images : List Entry) (s : MachineState) (has : HasHeaps s) (start a : ℕ) (x : Bool) (next number : ℕ) → swi_of number ≡ Some swi.Heap
    → IsSound (outcome_of_call images s x next number).now.store → IsByteHeld s.store (outcome_of_call images s x next number).now.store start a
    → ((outcome_of_call images s x next number).now.store.bytes.at a ≡ s.store.bytes.at a)
    ⊎ IsOfInnerHeap (swi_of number) s.cpu s.store (outcome_of_call images s x next number).now start a
heap_byte images s has start a x next number name sound held =
    let t : MachineState = (outcome_of_call images s x next number).now in
    let own = own_found s.store t.store start a held in
    let off : in_range system_start 0x3000 a ≡ false = off_system s held.old has.modules.store own a (held_inside s t.store start a has held) in
    subst (λ (o : Option _). (t.store.bytes.at a ≡ s.store.bytes.at a) ⊎ IsOfInnerHeap o s.cpu s.store t start a) (sym name)
    (left_or_written s t start a
    (left_byte s has t.store (register_of s.cpu 1) start a (heap_call_leaves s has.modules.store images x next number name sound) sound held)
    (heap_call_leaves_byte s has.modules.store a off images x next number name sound))
