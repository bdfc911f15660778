-- Over any move, the blocks of a heap that a guest made, and in which no heap lies or is made, keep
-- what they hold, but for what an instruction stores.
use Rattle.swi_dispatch_guest.specs.Moves.{Call, Step, machine_with_words, machine_after_event, swi_of_turn}
use Rattle.std.proofs.Common.{ℕ, ◌≡◌, ◌≢◌, ◌-◌, ◌+◌, ◌%◌, ◌^◌, ◌∙◌, ◌⊎◌, Bool, true, false, List, Option, Some, Result, Ok, Err, refl, sym, ap, subst, inl, inr}
use Rattle.std.proofs.lemmas.Bool.{cases_Bool, cases_eq, true≢false}
use Rattle.profile.specs.SwiNames.{swi_of}
use Rattle.profile.specs.Word.{bit_of}
use Rattle.profile.specs.declared.swi.SwiName.{SwiName}
use Rattle.profile.specs.declared.swi.SwiName.TheVariants as swi
use Rattle.address_map.specs.Bytes.{Bytes, in_range}
use Rattle.arm_core.specs.State.{State, register_of}
use Rattle.arm_core.specs.declared.turn.StepEnd.{StepEnd}
use Rattle.arm_core.specs.declared.turn.StepEnd.TheVariants as turn
use Rattle.profile.specs.images.Entries.{Entry}
use Rattle.os_heap_words.specs.lists.Heap.{HeapList}
use Rattle.os_heap_words.specs.lists.Lists.{live_total}
use Rattle.os_heap.specs.Calls.{OfHeap, has_own_size}
use Rattle.os_heap.specs.Store.{IsSound, Store, find_heap}
use Rattle.law_machine.proofs.HeapCallsLemmas.NoHeapInside.{whole_recorded}
use Rattle.law_machine.specs.heap_calls.Laws.{HeapHasNoAnchor, HoldsNoHeap, IsLeftWhole}
use Rattle.swi_dispatch_guest.proofs.NextTurn.{unhalted_step, outside_call}
use Rattle.swi_dispatch_guest.specs.MachineState.{MachineState, StepOutcome}
use Rattle.swi_dispatch_guest.specs.Step.{outcome_of_call, result_of_instruction, machine_step, store_called, outcome_of_turn, without_x}
use Rattle.law_machine.proofs.HeapAloneLemmas.Gates.{gate_keeps}
use Rattle.law_machine.proofs.HeapAloneLemmas.LiveBytes.{byte_done, heap_call_leaves, payload_inside}
use Rattle.law_machine.proofs.HeapAloneLemmas.ModuleHosts.{IsHost}
use Rattle.law_machine.proofs.HeapAloneLemmas.ModuleLaws.{any_heap, asked, host as host_of}
use Rattle.law_machine.proofs.HeapAloneLemmas.OwnCalls.{heap_swi}
use Rattle.law_machine.proofs.HeapAloneLemmas.States.{HasStore, IsGiven, given_goes, given_same, given_stays, given_store, has_store, sound_store}
use Rattle.law_machine.proofs.HeapAloneLemmas.Steps.{from_inside, names_none, swi_keeps}
use Rattle.law_machine.specs.heap_alone.ByteLaws.{IsStoredPlain, MovesKeepLiveBytes}
use Rattle.law_machine.specs.heap_alone.Moves.{is_heap_swi}

-- a heap that is found after the move, and in which no heap lies
abbrev IsBareIn : HeapList → HeapList → Store → Type 0
IsBareIn h g t = (find_heap h.start t.heaps ≡ Some g) × HoldsNoHeap t g

module _ (images : List Entry) (s : MachineState) (h g : HeapList) (block total new_total a : ℕ) (has : HasStore s)
    (found : find_heap h.start s.store.heaps ≡ Some h) (own : has_own_size h.kind ≡ true) (anchors : HeapHasNoAnchor s.store h) (host : IsHost s h)
    (live : live_total block (h.start + 16) h.items ≡ Some total) (live' : live_total block (h.start + 16) g.items ≡ Some new_total)
    (here : in_range block (total - 4) a ≡ true) (there : in_range block (new_total - 4) a ≡ true) where
  inside : in_range h.start h.end a ≡ true
  inside = payload_inside s.store h block total a (sound_store s has) found live here

  not_heap : (name : Option SwiName) → is_heap_swi name ≡ false → name ≡ Some swi.Heap → register_of s.cpu 1 ≢ h.start
  not_heap name other is = absurd (true≢false (sym (ap is_heap_swi is) ∙ other))

  whole : (t : Store) → IsBareIn h g t → IsLeftWhole t h.start
  whole t bare = subst (OfHeap (HoldsNoHeap t)) (sym bare.0) bare.1

  pub call_byte : (x : Bool) (next number : ℕ) → (swi_of number ≡ Some swi.FlexAlloc → in_range h.start h.end (register_of s.cpu 0) ≡ false)
      → IsSound (outcome_of_call images s x next number).now.store → IsBareIn h g (outcome_of_call images s x next number).now.store
      → (outcome_of_call images s x next number).now.store.bytes.at a ≡ s.store.bytes.at a
  call_byte x next number named sound bare = elim (cases_Bool (is_heap_swi (swi_of number))) [
    | inr other ↦ elsewhere (not_heap (swi_of number) other)
    | inl is ↦ elim (cases_eq (register_of s.cpu 1) h.start) [
      | inr away ↦ elsewhere (λ _. away)
      | inl at ↦ (heap_call_leaves s has images x next number (heap_swi (swi_of number) is) sound).payloads h g block total new_total a found bare.0 live live' here
          there (inl (sym at))
    ]
  ] where
    elsewhere : (swi_of number ≡ Some swi.Heap → register_of s.cpu 1 ≢ h.start) → (outcome_of_call images s x next number).now.store.bytes.at a ≡ s.store.bytes.at a
    elsewhere away =
        (swi_keeps images s h has found own anchors host x next number (from_inside (swi_of number) s h away) (names_none (swi_of number) s h named) sound
        (whole (outcome_of_call images s x next number).now.store bare)).bytes a inside

  pub turn_byte : (r : Result (State × Bytes) StepEnd) → result_of_instruction s ≡ r
      → (swi_of_turn r ≡ Some swi.FlexAlloc → in_range h.start h.end (register_of s.cpu 0) ≡ false)
      → IsSound (outcome_of_turn images s r).now.store → IsBareIn h g (outcome_of_turn images s r).now.store
      → ((outcome_of_turn images s r).now.store.bytes.at a ≡ s.store.bytes.at a) ⊎ IsStoredPlain s a
  turn_byte (Ok w) is named sound bare = byte_done s w a is
  turn_byte (Err turn.Done) is named sound bare = inl refl
  turn_byte (Err (turn.Swi n)) is named sound bare =
      inl (call_byte (bit_of n 17) ((s.cpu.pc + 4) % 2 ^ 26) (without_x n) named sound bare)
  turn_byte (Err turn.Gate) is named sound bare =
      let t : Store = (outcome_of_turn images s (Err turn.Gate)).now.store in
      inl ((gate_keeps s h host (λ lies. whole_recorded t h.start (whole t bare))).bytes a inside)
  turn_byte (Err (turn.Fault f)) is named sound bare = inl refl

-- or the move was a step, whose instruction stored
by_step : (s : MachineState) (a : ℕ) (A : Type 0) → A ⊎ IsStoredPlain s a → A ⊎ ((Step ≡ Step) × IsStoredPlain s a)
by_step s a A (inl same) = inl same
by_step s a A (inr stored) = inr (refl, stored)

pub moves_keep : MovesKeepLiveBytes
moves_keep images s h g Step block total new_total a has after named found bare live live' here there =
    let step : machine_step images s ≡ outcome_of_turn images s (result_of_instruction s) = unhalted_step images s has.goes in
    let sound : IsSound (outcome_of_turn images s (result_of_instruction s)).now.store =
    subst (λ (o : StepOutcome). IsSound o.now.store) step (sound_store (machine_after_event images s Step) (has_store (machine_after_event images s Step) after)) in
    let bare' : IsBareIn h g (outcome_of_turn images s (result_of_instruction s)).now.store = subst (λ (o : StepOutcome). IsBareIn h g o.now.store) step (found, bare) in
    by_step s a ((machine_step images s).now.store.bytes.at a ≡ s.store.bytes.at a)
    (subst (λ (o : StepOutcome). (o.now.store.bytes.at a ≡ s.store.bytes.at a) ⊎ IsStoredPlain s a) (sym step)
    (turn_byte images s h g block total new_total a (has_store s has.state) has.found has.own has.anchors (host_of s h (any_heap s h has)) live live' here there
    (result_of_instruction s) refl named sound bare'))
moves_keep images s h g (Call number words) block total new_total a has after named found bare live live' here there =
    let u : MachineState = machine_with_words s words in
    let store : HasStore s = has_store s has.state in
    let same : IsGiven s u = given_same s 0 words store.size in
    let stays : u.store ≡ s.store = given_stays s u same in
    let call : store_called images u number ≡ outcome_of_call images u true u.cpu.pc (without_x (number % 2 ^ 24)) = outside_call images u number (given_goes s u same ∙ has.goes) in
    let sound : IsSound (outcome_of_call images u true u.cpu.pc (without_x (number % 2 ^ 24))).now.store =
    subst (λ (o : StepOutcome). IsSound o.now.store) call (sound_store (machine_after_event images s (Call number words)) (has_store (machine_after_event images s (Call number words)) after)) in
    let bare' : IsBareIn h g (outcome_of_call images u true u.cpu.pc (without_x (number % 2 ^ 24))).now.store =
    subst (λ (o : StepOutcome). IsBareIn h g o.now.store) call (found, bare) in
    let here_found : find_heap h.start u.store.heaps ≡ Some h = ap (λ (t : Store). find_heap h.start t.heaps) stays ∙ has.found in
    let anchors : HeapHasNoAnchor u.store h = subst (λ (t : Store). HeapHasNoAnchor t h) (sym stays) has.anchors in
    let byte : (outcome_of_call images u true u.cpu.pc (without_x (number % 2 ^ 24))).now.store.bytes.at a ≡ u.store.bytes.at a =
    call_byte images u h g block total new_total a (given_store s u store same) here_found has.own anchors (asked s h words (any_heap s h has)).host live live' here there
    true u.cpu.pc (without_x (number % 2 ^ 24)) named sound bare' in
    inl (ap (λ (o : StepOutcome). o.now.store.bytes.at a) call ∙ byte ∙ ap (λ (t : Store). t.bytes.at a) stays)
