-- What a move that isn't a call on a heap leaves of it: all of it, where it leaves it whole.
use Rattle.swi_dispatch_guest.specs.Moves.{Call, Move, Step, machine_with_words, machine_after_event, outside_name, swi_of_turn}
use Rattle.std.proofs.Common.{ℕ, ◌≡◌, ◌≢◌, ◌+◌, ◌%◌, ◌^◌, ◌==◌, ◌&&◌, ◌∙◌, Bool, true, false, List, Option, Some, None, Result, Ok, Err, refl, sym, ap, subst, inl, inr}
use Rattle.std.proofs.lemmas.Bool.{and_parts, cases_Bool, eqb-true, false_from_ne_true}
use Rattle.profile.specs.Reasons.{heap_reason}
use Rattle.profile.specs.SwiNames.{swi_of}
use Rattle.profile.specs.Word.{bit_of}
use Rattle.profile.specs.declared.reason.HeapReason.{HeapReason}
use Rattle.profile.specs.declared.swi.SwiName.{SwiName}
use Rattle.profile.specs.declared.swi.SwiName.TheVariants as swi
use Rattle.address_map.specs.Bytes.{Bytes, in_range}
use Rattle.arm_core.specs.State.{State, register_of}
use Rattle.arm_core.specs.declared.turn.StepEnd.{StepEnd}
use Rattle.arm_core.specs.declared.turn.StepEnd.TheVariants as turn
use Rattle.profile.specs.images.Entries.{Entry}
use Rattle.os_heap_words.specs.lists.Heap.{HeapList}
use Rattle.os_heap.specs.Calls.{has_own_size}
use Rattle.os_heap.specs.Store.{IsSound, Store, find_heap, owned_in}
use Rattle.law_machine.proofs.HeapCallsLemmas.NoHeapInside.{whole_recorded}
use Rattle.law_machine.specs.heap_calls.Laws.{HeapHasNoAnchor, IsLeftWhole, KeepsHeap}
use Rattle.swi_dispatch_guest.proofs.NextTurn.{unhalted_step, outside_call}
use Rattle.swi_dispatch_guest.specs.MachineState.{MachineState, StepOutcome}
use Rattle.swi_dispatch_guest.specs.Step.{outcome_of_call, result_of_instruction, machine_step, store_called, outcome_of_turn, without_x}
use Rattle.law_machine.proofs.HeapAloneLemmas.Called.{IsElsewhere, IsHeapElsewhere, called_keeps}
use Rattle.law_machine.proofs.HeapAloneLemmas.Gates.{gate_keeps}
use Rattle.law_machine.proofs.HeapAloneLemmas.Keeping.{KeepsWhole}
use Rattle.law_machine.proofs.HeapAloneLemmas.ModuleHosts.{IsHost}
use Rattle.law_machine.proofs.HeapAloneLemmas.ModuleLaws.{any_heap, asked, host as host_of}
use Rattle.law_machine.proofs.HeapAloneLemmas.ModuleMoves.{module_called_keeps}
use Rattle.law_machine.proofs.HeapAloneLemmas.Rows.{NamesNone}
use Rattle.law_machine.proofs.HeapAloneLemmas.States.{HasStore, IsGiven, given_goes, given_same, given_stays, given_store, has_store, sound_store}
use Rattle.law_machine.proofs.HeapAloneLemmas.Storing.{step_past}
use Rattle.law_machine.specs.heap_alone.Laws.{HasHeap, IsAside, IsMoveDone}
use Rattle.law_machine.specs.heap_alone.ModuleMoves.{is_module_name}
use Rattle.law_machine.specs.heap_alone.Moves.{is_for_heap, is_heap_swi, is_own, is_swi_to as is_core_call_to}
use Rattle.law_machine.specs.heap_alone.Storing.{is_stored}
use Rattle.law_machine.proofs.HeapFrameLemmas.Areas.{heap_same}

-- where OS_Heap isn't called on the heap at a place
elsewhere_by : (o : Option HeapReason) (s : MachineState) (h : HeapList) → (is_for_heap o && register_of s.cpu 1 == h.start) ≡ false → IsElsewhere s h o
elsewhere_by None s h other = tt
elsewhere_by (Some why) s h other = other

from_outside : (name : Option SwiName) (s : MachineState) (h : HeapList) → (is_heap_swi name && is_core_call_to h.start s.cpu) ≡ false
    → IsHeapElsewhere s h name
from_outside (Some swi.Heap) s h other = elsewhere_by (heap_reason (register_of s.cpu 0)) s h other
from_outside None s h other = tt
from_outside (Some name) s h other = tt

apart : (why : Bool) (at start : ℕ) → at ≢ start → (why && at == start) ≡ false
apart why at start differ = false_from_ne_true (why && at == start) (λ is. differ (eqb-true at start (and_parts why (at == start) is).1))

pub from_inside : (name : Option SwiName) (s : MachineState) (h : HeapList) → (name ≡ Some swi.Heap → register_of s.cpu 1 ≢ h.start)
    → IsHeapElsewhere s h name
from_inside (Some swi.Heap) s h other =
    elsewhere_by (heap_reason (register_of s.cpu 0)) s h (apart (is_for_heap (heap_reason (register_of s.cpu 0))) (register_of s.cpu 1) h.start (other refl))
from_inside None s h other = tt
from_inside (Some name) s h other = tt

pub names_none : (name : Option SwiName) (s : MachineState) (h : HeapList)
    → (name ≡ Some swi.FlexAlloc → in_range h.start h.end (register_of s.cpu 0) ≡ false) → NamesNone s h name
names_none (Some swi.FlexAlloc) s h named = named refl
names_none None s h named = tt
names_none (Some name) s h named = tt

module _ (images : List Entry) (s : MachineState) (h : HeapList) (has : HasStore s) (found : find_heap h.start s.store.heaps ≡ Some h)
    (own : has_own_size h.kind ≡ true) (anchors : HeapHasNoAnchor s.store h) (host : IsHost s h) where
  same : KeepsHeap h s.store s.store
  same = heap_same h s.store found

  -- a call, of OS_Module or another
  pub swi_keeps : (x : Bool) (next number : ℕ) → IsHeapElsewhere s h (swi_of number) → NamesNone s h (swi_of number)
      → KeepsWhole h s.store (outcome_of_call images s x next number).now.store
  swi_keeps x next number other outside sound left = elim (cases_Bool (is_module_name (swi_of number))) [
    | inl module_swi ↦
        module_called_keeps images s h host x next number module_swi (λ lies. whole_recorded (outcome_of_call images s x next number).now.store h.start left)
    | inr another ↦ called_keeps images s h has found own anchors x next number another other outside sound left
  ]

  -- what the instruction does, or what it asks for
  turn_keeps : (r : Result (State × Bytes) StepEnd) → result_of_instruction s ≡ r
      → ((a : ℕ) → in_range h.start h.end a ≡ true → is_stored s.cpu s.store.bytes a ≡ false)
      → (swi_of_turn r ≡ Some swi.Heap → register_of s.cpu 1 ≢ h.start)
      → (swi_of_turn r ≡ Some swi.FlexAlloc → in_range h.start h.end (register_of s.cpu 0) ≡ false)
      → KeepsWhole h s.store (outcome_of_turn images s r).now.store
  turn_keeps (Ok w) is stores calls named sound left = record {
    found = found;
    bytes = λ a here. step_past (owned_in s.store) s.cpu w.0 s.store.bytes w.1 a is (stores a here);
    anchors = λ a here. refl;
  }
  turn_keeps (Err turn.Done) is stores calls named sound left = same
  turn_keeps (Err (turn.Swi n)) is stores calls named sound left =
      swi_keeps (bit_of n 17) ((s.cpu.pc + 4) % 2 ^ 26) (without_x n)
      (from_inside (swi_of (without_x n)) s h calls) (names_none (swi_of (without_x n)) s h named) sound left
  turn_keeps (Err turn.Gate) is stores calls named sound left =
      gate_keeps s h host (λ lies. whole_recorded (outcome_of_turn images s (Err turn.Gate)).now.store h.start left)
  turn_keeps (Err (turn.Fault f)) is stores calls named sound left = same

pub move_keeps : (images : List Entry) (s : MachineState) (h : HeapList) (m : Move) → HasHeap s h → IsMoveDone images h.start s m
    → is_own h.start s m ≡ false → KeepsHeap h s.store (machine_after_event images s m).store
move_keeps images s h Step has move other =
    let step : machine_step images s ≡ outcome_of_turn images s (result_of_instruction s) = unhalted_step images s has.goes in
    let aside : IsAside s h Step = move.aside h has.found in
    let sound : IsSound (outcome_of_turn images s (result_of_instruction s)).now.store =
    subst (λ (o : StepOutcome). IsSound o.now.store) step (sound_store (machine_after_event images s Step) (has_store (machine_after_event images s Step) move.state)) in
    let left : IsLeftWhole (outcome_of_turn images s (result_of_instruction s)).now.store h.start =
    subst (λ (o : StepOutcome). IsLeftWhole o.now.store h.start) step (move.left other) in
    subst (λ (o : StepOutcome). KeepsHeap h s.store o.now.store) (sym step)
    (turn_keeps images s h (has_store s has.state) has.found has.own has.anchors (host_of s h (any_heap s h has)) (result_of_instruction s) refl (aside.stores refl)
    (aside.calls refl) aside.anchors sound left)
move_keeps images s h (Call number words) has move other =
    let u : MachineState = machine_with_words s words in
    let store : HasStore s = has_store s has.state in
    let same : IsGiven s u = given_same s 0 words store.size in
    let call : store_called images u number ≡ outcome_of_call images u true u.cpu.pc (without_x (number % 2 ^ 24)) = outside_call images u number (given_goes s u same ∙ has.goes) in
    let sound : IsSound (outcome_of_call images u true u.cpu.pc (without_x (number % 2 ^ 24))).now.store =
    subst (λ (o : StepOutcome). IsSound o.now.store) call (sound_store (machine_after_event images s (Call number words)) (has_store (machine_after_event images s (Call number words)) move.state)) in
    let left : IsLeftWhole (outcome_of_call images u true u.cpu.pc (without_x (number % 2 ^ 24))).now.store h.start =
    subst (λ (o : StepOutcome). IsLeftWhole o.now.store h.start) call (move.left other) in
    let found : find_heap h.start u.store.heaps ≡ Some h = ap (λ (t : Store). find_heap h.start t.heaps) (given_stays s u same) ∙ has.found in
    let anchors : HeapHasNoAnchor u.store h = subst (λ (t : Store). HeapHasNoAnchor t h) (sym (given_stays s u same)) has.anchors in
    let kept : KeepsHeap h u.store (outcome_of_call images u true u.cpu.pc (without_x (number % 2 ^ 24))).now.store =
    swi_keeps images u h (given_store s u store same) found has.own anchors (asked s h words (any_heap s h has)).host true u.cpu.pc (without_x (number % 2 ^ 24))
    (from_outside (outside_name number) u h other) (names_none (outside_name number) u h (move.aside h has.found).anchors) sound left in
    subst (λ (t : Store). KeepsHeap h t (store_called images u number).now.store) (given_stays s u same)
    (subst (λ (o : StepOutcome). KeepsHeap h u.store o.now.store) (sym call) kept)
