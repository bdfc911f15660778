-- Over any move, what live blocks hold stays, but for what the table says.
use Rattle.profile.specs.MemoryMap.{module_area_start, system_start}
use Rattle.std.proofs.Common.{ℕ, ◌≡◌, ◌+◌, ◌%◌, ◌^◌, ◌&&◌, ◌||◌, ◌∙◌, ◌⊎◌, Bool, true, false, List, Option, Some, None, Result, Ok, Err, refl, sym, ap, subst, inl, inr}
use Rattle.std.specs.Prelude.{if◌then◌else◌}
use Rattle.std.proofs.lemmas.Bool.{both_ways, cases_Bool, false_from_ne_true, false≢true, or_left}
use Rattle.profile.specs.SwiNames.{swi_of}
use Rattle.profile.specs.Word.{bit_of}
use Rattle.profile.specs.declared.swi.SwiName.{SwiName}
use Rattle.profile.specs.declared.swi.SwiName.TheVariants as swi
use Rattle.address_map.specs.Bytes.{Bytes, in_range}
use Rattle.arm_core.specs.State.{State}
use Rattle.arm_core.specs.declared.turn.StepEnd.{StepEnd}
use Rattle.arm_core.specs.declared.turn.StepEnd.TheVariants as turn
use Rattle.profile.specs.images.Entries.{Entry}
use Rattle.os_heap.proofs.Anchored.{header_outside}
use Rattle.os_heap.specs.Store.{IsSound, Store, find_heap, is_in_flex_store}
use Rattle.swi_dispatch_guest.proofs.NextTurn.{unhalted_step, outside_call}
use Rattle.swi_dispatch_guest.specs.declared.halt.Halt.{Halt}
use Rattle.swi_dispatch_guest.specs.declared.halt.Halt.TheVariants as halt
use Rattle.swi_dispatch_guest.specs.MachineState.{MachineState, StepOutcome, silent}
use Rattle.swi_dispatch_guest.specs.Returns.{outcome_of_halt}
use Rattle.swi_dispatch_guest.specs.Step.{outcome_of_call, called_by, result_of_instruction, is_exit, machine_step, store_called, outcome_of_turn, unless_halted, without_x}
use Rattle.law_machine.proofs.HeapAloneLemmas.Gates.{gate_keeps}
use Rattle.law_machine.proofs.HeapAloneLemmas.Keeping.{off_system}
use Rattle.law_machine.proofs.HeapAloneLemmas.LiveBytes.{byte_done}
use Rattle.law_machine.proofs.HeapAloneLemmas.ModuleHosts.{IsHost}
use Rattle.law_machine.proofs.HeapAloneLemmas.ModuleMoves.{module_called_keeps}
use Rattle.law_machine.proofs.HeapAloneLemmas.OwnCalls.{heap_swi}
use Rattle.law_machine.proofs.HeapAloneLemmas.Rows.{is_flex_call}
use Rattle.law_machine.proofs.HeapAloneLemmas.States.{IsGiven, given_goes, given_same, given_stays, has_store, sound_store}
use Rattle.law_machine.specs.heap_alone.ByteLaws.{IsStoredPlain}
use Rattle.law_machine.specs.heap_alone.ModuleMoves.{is_at_gate, is_module_name}
use Rattle.swi_dispatch_guest.specs.Moves.{Call, Step, machine_with_words, machine_after_event, outside_name, swi_of_turn}
use Rattle.swi_dispatch_guest.specs.GuestState.{IsState}
use Rattle.law_machine.specs.heap_alone.Moves.{is_heap_swi}
use Rattle.law_machine.proofs.LiveBytesLemmas.Carried.{gate_were}
use Rattle.law_machine.proofs.LiveBytesLemmas.Extending.{were_kept}
use Rattle.law_machine.proofs.LiveBytesLemmas.FlexRows.{flex_byte}
use Rattle.law_machine.proofs.LiveBytesLemmas.HeapBytes.{heap_byte}
use Rattle.law_machine.proofs.LiveBytesLemmas.Heaps.{HasHeaps, given_heaps, has_heaps, held_all, held_both, held_inside, held_recorded, own_found}
use Rattle.law_machine.proofs.LiveBytesLemmas.ModuleRows.{os_module_both}
use Rattle.law_machine.proofs.LiveBytesLemmas.Rows.{other_keeps}
use Rattle.law_machine.specs.live_bytes.AreaLaws.{KeepsBoth}
use Rattle.law_machine.specs.live_bytes.Changes.{IsByteHeld, IsOfInnerHeap, LiveBytesStay, MayChange, begins_tidy, is_flex_name, slides_on}
use Rattle.law_machine.specs.live_bytes.FlexLaws.{IsAnchorByte}

module _ (images : List Entry) (s : MachineState) (has : HasHeaps s) (start a : ℕ) where
  -- what a call leaves of the byte; `slides` says whether it may move blocks of the module area
  -- together
  abbrev CallChanges : Option SwiName → Bool → MachineState → Type 0
  CallChanges name slides t =
      (t.store.bytes.at a ≡ s.store.bytes.at a)
      ⊎ (((is_flex_name name ≡ true) × IsAnchorByte s.store t.store a)
      ⊎ (((start ≡ module_area_start) × (slides ≡ true)) ⊎ IsOfInnerHeap name s.cpu s.store t start a))

  host : (t : Store) (held : IsByteHeld s.store t start a) → (find_heap held.old.start s.store.heaps ≡ Some held.old) × (in_range held.old.start held.old.end a ≡ true)
  host t held = (own_found s.store t start a held, held_inside s t start a has held)

  -- outside the flex store, and the system pages
  out_of : (t : Store) → IsByteHeld s.store t start a → is_in_flex_store s.store.others a ≡ false
  out_of t held =
      let own = host t held in
      false_from_ne_true (is_in_flex_store s.store.others a) (λ is.
      both_ways (in_range held.old.start held.old.end a)
      (header_outside held.old.start s.store.heaps s.store.others held.old a (sound_store s has.modules.store).placed own.0 is) own.1)

  off_of : (t : Store) → IsByteHeld s.store t start a → in_range system_start 0x3000 a ≡ false
  off_of t held =
      let own = host t held in
      off_system s held.old has.modules.store own.0 a own.1

  in_area : (t : Store) → start ≡ module_area_start → KeepsBoth s.store t → IsByteHeld s.store t start a → t.bytes.at a ≡ s.store.bytes.at a
  in_area t at kept held = held_both s.store t a kept (subst (λ (p : ℕ). IsByteHeld s.store t p a) at held)

  -- OS_Module
  abbrev named : Bool → ℕ → ℕ → Option SwiName → StepOutcome
  named x next number name = if is_exit name then outcome_of_halt s halt.Exit else called_by images s x next number name

  named_both : (x : Bool) (next number : ℕ) (name : Option SwiName) → is_module_name name ≡ true → begins_tidy s next ≡ false
      → KeepsBoth s.store (named x next number name).now.store
  named_both x next number (Some swi.Module) is calm = os_module_both s has.modules images x next number calm
  named_both x next number None is calm = absurd (false≢true is)
  named_both x next number (Some name) is calm = absurd (false≢true is)

  called_both : (x : Bool) (next number : ℕ) → is_module_name (swi_of number) ≡ true → begins_tidy s next ≡ false
      → KeepsBoth s.store (outcome_of_call images s x next number).now.store
  unfolding outcome_of_call
  called_both x next number is calm = named_both x next number (swi_of number) is calm

  module_byte : (x : Bool) (next number : ℕ) (tidy : Bool) → is_module_name (swi_of number) ≡ true → begins_tidy s next ≡ tidy
      → IsByteHeld s.store (outcome_of_call images s x next number).now.store start a
      → ((outcome_of_call images s x next number).now.store.bytes.at a ≡ s.store.bytes.at a) ⊎ ((start ≡ module_area_start) × (tidy ≡ true))
  module_byte x next number tidy is same held = elim (has.kinds start held.old held.found) [
    | inl own ↦
        let t : Store = (outcome_of_call images s x next number).now.store in
        let mine = host t held in
        let h : IsHost s held.old = record { modules = has.modules; found = mine.0; own = own } in
        inl ((module_called_keeps images s held.old h x next number is (λ lies. held_recorded s.store t start a held)).bytes a mine.1)
    | inr at ↦ elim (cases_Bool tidy) [
      | inl slides ↦ inr (at, slides)
      | inr calm ↦ inl (in_area (outcome_of_call images s x next number).now.store at (called_both x next number is (same ∙ calm)) held)
    ]
  ]

  -- flex calls, and all others
  flex_named : (x : Bool) (next number : ℕ) (name : Option SwiName) → is_flex_call name ≡ true → (held : IsByteHeld s.store (named x next number name).now.store start a)
      → ((named x next number name).now.store.bytes.at a ≡ s.store.bytes.at a)
      ⊎ ((is_flex_name name ≡ true) × IsAnchorByte s.store (named x next number name).now.store a)
  flex_named x next number (Some swi.FlexInit) is held =
      flex_byte s has.modules.store a (out_of (named x next number (Some swi.FlexInit)).now.store held)
      (off_of (named x next number (Some swi.FlexInit)).now.store held) x next number (Some swi.FlexInit) refl
  flex_named x next number (Some swi.FlexAlloc) is held =
      flex_byte s has.modules.store a (out_of (named x next number (Some swi.FlexAlloc)).now.store held)
      (off_of (named x next number (Some swi.FlexAlloc)).now.store held) x next number (Some swi.FlexAlloc) refl
  flex_named x next number (Some swi.FlexFree) is held =
      flex_byte s has.modules.store a (out_of (named x next number (Some swi.FlexFree)).now.store held)
      (off_of (named x next number (Some swi.FlexFree)).now.store held) x next number (Some swi.FlexFree) refl
  flex_named x next number (Some swi.FlexExtend) is held =
      flex_byte s has.modules.store a (out_of (named x next number (Some swi.FlexExtend)).now.store held)
      (off_of (named x next number (Some swi.FlexExtend)).now.store held) x next number (Some swi.FlexExtend) refl
  flex_named x next number (Some swi.FlexMidExtend) is held =
      flex_byte s has.modules.store a (out_of (named x next number (Some swi.FlexMidExtend)).now.store held)
      (off_of (named x next number (Some swi.FlexMidExtend)).now.store held) x next number (Some swi.FlexMidExtend) refl
  flex_named x next number other is held = absurd (false≢true is)

  flex_called : (x : Bool) (next number : ℕ) → is_flex_call (swi_of number) ≡ true → (held : IsByteHeld s.store (outcome_of_call images s x next number).now.store start a)
      → ((outcome_of_call images s x next number).now.store.bytes.at a ≡ s.store.bytes.at a)
      ⊎ ((is_flex_name (swi_of number) ≡ true) × IsAnchorByte s.store (outcome_of_call images s x next number).now.store a)
  unfolding outcome_of_call
  flex_called x next number is held = flex_named x next number (swi_of number) is held

  rest_byte : (x : Bool) (next number : ℕ) → is_module_name (swi_of number) ≡ false → is_heap_swi (swi_of number) ≡ false
      → IsByteHeld s.store (outcome_of_call images s x next number).now.store start a
      → ((outcome_of_call images s x next number).now.store.bytes.at a ≡ s.store.bytes.at a)
      ⊎ ((is_flex_name (swi_of number) ≡ true) × IsAnchorByte s.store (outcome_of_call images s x next number).now.store a)
  rest_byte x next number module_swi heap held = elim (cases_Bool (is_flex_call (swi_of number))) [
    | inl flex ↦ flex_called x next number flex held
    | inr other ↦ inl (held_all s.store (outcome_of_call images s x next number).now.store start a
        (other_keeps s has images x next number (module_swi, (heap, other))) held)
  ]

  abbrev tidies : ℕ → ℕ → Bool
  tidies next number = is_module_name (swi_of number) && begins_tidy s next

  from_rest : (name : Option SwiName) (slides : Bool) (t : MachineState)
      → (t.store.bytes.at a ≡ s.store.bytes.at a) ⊎ ((is_flex_name name ≡ true) × IsAnchorByte s.store t.store a)
      → CallChanges name slides t
  from_rest name slides t (inl same) = inl same
  from_rest name slides t (inr anchor) = inr (inl anchor)

  from_module : (name : Option SwiName) (tidy slides : Bool) (t : MachineState) → (tidy ≡ true → slides ≡ true)
      → (t.store.bytes.at a ≡ s.store.bytes.at a) ⊎ ((start ≡ module_area_start) × (tidy ≡ true)) → CallChanges name slides t
  from_module name tidy slides t more (inl same) = inl same
  from_module name tidy slides t more (inr slid) = inr (inr (inl (slid.0, more slid.1)))

  from_heap : (name : Option SwiName) (slides : Bool) (t : MachineState)
      → (t.store.bytes.at a ≡ s.store.bytes.at a) ⊎ IsOfInnerHeap name s.cpu s.store t start a → CallChanges name slides t
  from_heap name slides t (inl same) = inl same
  from_heap name slides t (inr inner) = inr (inr (inr inner))

  both_true : (p q : Bool) → p ≡ true → q ≡ true → (p && q) ≡ true
  both_true true true one two = refl
  both_true true false one two = absurd (false≢true two)
  both_true false q one two = absurd (false≢true one)

  pub call_byte : (x : Bool) (next number : ℕ) → IsSound (outcome_of_call images s x next number).now.store
      → IsByteHeld s.store (outcome_of_call images s x next number).now.store start a
      → CallChanges (swi_of number) (tidies next number) (outcome_of_call images s x next number).now
  call_byte x next number sound held =
      let t : MachineState = (outcome_of_call images s x next number).now in
      elim (cases_Bool (is_heap_swi (swi_of number))) [
        | inl heap ↦ from_heap (swi_of number) (tidies next number) t (heap_byte images s has start a x next number (heap_swi (swi_of number) heap) sound held)
        | inr no_heap ↦ elim (cases_Bool (is_module_name (swi_of number))) [
          | inl is ↦
              let tidy : Bool = begins_tidy s next in
              from_module (swi_of number) tidy (tidies next number) t (both_true (is_module_name (swi_of number)) tidy is)
              (module_byte x next number tidy is refl held)
          | inr other ↦ from_rest (swi_of number) (tidies next number) t (rest_byte x next number other no_heap held)
        ]
      ]

  -- a step
  abbrev next_of : ℕ
  next_of = (s.cpu.pc + 4) % 2 ^ 26

  abbrev turn_slides : Result (State × Bytes) StepEnd → Bool
  turn_slides r = (is_module_name (swi_of_turn r) && begins_tidy s next_of) || (is_at_gate r && slides_on s.cpu s.tables.plan)

  abbrev TurnChanges : Result (State × Bytes) StepEnd → MachineState → Type 0
  TurnChanges r t =
      (t.store.bytes.at a ≡ s.store.bytes.at a)
      ⊎ (IsStoredPlain s a ⊎ (((is_flex_name (swi_of_turn r) ≡ true) × IsAnchorByte s.store t.store a)
      ⊎ (((start ≡ module_area_start) × (turn_slides r ≡ true)) ⊎ IsOfInnerHeap (swi_of_turn r) s.cpu s.store t start a)))

  from_call : (n : ℕ) (t : MachineState) → CallChanges (swi_of (without_x n)) (tidies next_of (without_x n)) t → TurnChanges (Err (turn.Swi n)) t
  from_call n t (inl same) = inl same
  from_call n t (inr (inl anchor)) = inr (inr (inl anchor))
  from_call n t (inr (inr (inl slid))) = inr (inr (inr (inl (slid.0, or_left (tidies next_of (without_x n)) false slid.1))))
  from_call n t (inr (inr (inr inner))) = inr (inr (inr (inr inner)))

  from_stored : (r : Result (State × Bytes) StepEnd) (t : MachineState) → (t.store.bytes.at a ≡ s.store.bytes.at a) ⊎ IsStoredPlain s a → TurnChanges r t
  from_stored r t (inl same) = inl same
  from_stored r t (inr stored) = inr (inl stored)

  gate_byte : (slides : Bool) → slides_on s.cpu s.tables.plan ≡ slides → IsByteHeld s.store (outcome_of_turn images s (Err turn.Gate)).now.store start a
      → ((outcome_of_turn images s (Err turn.Gate)).now.store.bytes.at a ≡ s.store.bytes.at a) ⊎ ((start ≡ module_area_start) × (slides ≡ true))
  gate_byte slides same held = elim (has.kinds start held.old held.found) [
    | inl own ↦
        let t : Store = (outcome_of_turn images s (Err turn.Gate)).now.store in
        let mine = host t held in
        let h : IsHost s held.old = record { modules = has.modules; found = mine.0; own = own } in
        inl ((gate_keeps s held.old h (λ lies. held_recorded s.store t start a held)).bytes a mine.1)
    | inr at ↦ elim (cases_Bool slides) [
      | inl slid ↦ inr (at, slid)
      | inr calm ↦
          let t : Store = (outcome_of_turn images s (Err turn.Gate)).now.store in
          inl (in_area t at (were_kept s.store t (gate_were s has.modules (same ∙ calm))) held)
    ]
  ]

  from_gate : (t : MachineState) → (t.store.bytes.at a ≡ s.store.bytes.at a) ⊎ ((start ≡ module_area_start) × (slides_on s.cpu s.tables.plan ≡ true))
      → TurnChanges (Err turn.Gate) t
  from_gate t (inl same) = inl same
  from_gate t (inr slid) = inr (inr (inr (inl (slid.0, slid.1))))

  pub turn_byte : (r : Result (State × Bytes) StepEnd) → result_of_instruction s ≡ r → IsSound (outcome_of_turn images s r).now.store
      → IsByteHeld s.store (outcome_of_turn images s r).now.store start a → TurnChanges r (outcome_of_turn images s r).now
  turn_byte (Ok w) is sound held = from_stored (Ok w) (outcome_of_turn images s (Ok w)).now (byte_done s w a is)
  turn_byte (Err turn.Done) is sound held = inl refl
  turn_byte (Err (turn.Swi n)) is sound held =
      from_call n (outcome_of_turn images s (Err (turn.Swi n))).now
      (call_byte (bit_of n 17) next_of (without_x n) sound held)
  turn_byte (Err turn.Gate) is sound held =
      from_gate (outcome_of_turn images s (Err turn.Gate)).now (gate_byte (slides_on s.cpu s.tables.plan) refl held)
  turn_byte (Err (turn.Fault f)) is sound held = inl refl

-- where the machine is halted nothing happens
pub step_halted : (images : List Entry) (s : MachineState) (h : Halt) → s.halt ≡ Some h → machine_step images s ≡ silent s
unfolding machine_step
step_halted images s h is = ap (λ (o : Option Halt). unless_halted s o (outcome_of_turn images s (result_of_instruction s))) is

pub call_halted : (images : List Entry) (s : MachineState) (number : ℕ) (h : Halt) → s.halt ≡ Some h → store_called images s number ≡ silent s
unfolding store_called
call_halted images s number h is =
    ap (λ (o : Option Halt). unless_halted s o (outcome_of_call images s true s.cpu.pc (without_x (number % 2 ^ 24)))) is

pub named_step : (A B C : Type 0) → A ⊎ (B ⊎ C) → A ⊎ (((Step ≡ Step) × B) ⊎ C)
named_step A B C (inl same) = inl same
named_step A B C (inr (inl stored)) = inr (inl (refl, stored))
named_step A B C (inr (inr other)) = inr (inr other)

pub named_call : (A B C : Type 0) → A ⊎ C → A ⊎ (B ⊎ C)
named_call A B C (inl same) = inl same
named_call A B C (inr other) = inr (inr other)

step_stays : (images : List Entry) (s : MachineState) (start a : ℕ) (o : Option Halt) → s.halt ≡ o → IsState s → IsState (machine_after_event images s Step)
    → IsByteHeld s.store (machine_after_event images s Step).store start a
    → ((machine_after_event images s Step).store.bytes.at a ≡ s.store.bytes.at a) ⊎ MayChange s (machine_after_event images s Step) Step start a
step_stays images s start a (Some h) is state after held = inl (ap (λ (o : StepOutcome). o.now.store.bytes.at a) (step_halted images s h is))
step_stays images s start a None goes state after held =
    let step : machine_step images s ≡ outcome_of_turn images s (result_of_instruction s) = unhalted_step images s goes in
    let sound : IsSound (outcome_of_turn images s (result_of_instruction s)).now.store =
    subst (λ (o : StepOutcome). IsSound o.now.store) step (sound_store (machine_after_event images s Step) (has_store (machine_after_event images s Step) after)) in
    let held' : IsByteHeld s.store (outcome_of_turn images s (result_of_instruction s)).now.store start a =
    subst (λ (o : StepOutcome). IsByteHeld s.store o.now.store start a) step held in
    subst (λ (o : StepOutcome). (o.now.store.bytes.at a ≡ s.store.bytes.at a) ⊎ MayChange s o.now Step start a) (sym step)
    (named_step _ _ _ (turn_byte images s (has_heaps s state) start a (result_of_instruction s) refl sound held'))

call_stays : (images : List Entry) (s : MachineState) (number : ℕ) (words : List ℕ) (start a : ℕ) (o : Option Halt) → s.halt ≡ o → IsState s
    → IsState (machine_after_event images s (Call number words)) → IsByteHeld s.store (machine_after_event images s (Call number words)).store start a
    → ((machine_after_event images s (Call number words)).store.bytes.at a ≡ s.store.bytes.at a) ⊎ MayChange s (machine_after_event images s (Call number words)) (Call number words) start a
call_stays images s number words start a (Some h) is state after held =
    let u : MachineState = machine_with_words s words in
    let same : IsGiven s u = given_same s 0 words (has_store s state).size in
    inl (ap (λ (o : StepOutcome). o.now.store.bytes.at a) (call_halted images u number h (given_goes s u same ∙ is)) ∙ ap (λ (t : Store). t.bytes.at a) (given_stays s u same))
call_stays images s number words start a None goes state after held =
    let u : MachineState = machine_with_words s words in
    let same : IsGiven s u = given_same s 0 words (has_store s state).size in
    let stays : u.store ≡ s.store = given_stays s u same in
    let o : StepOutcome = outcome_of_call images u true u.cpu.pc (without_x (number % 2 ^ 24)) in
    let call : store_called images u number ≡ o = outside_call images u number (given_goes s u same ∙ goes) in
    let sound : IsSound o.now.store =
    subst (λ (o : StepOutcome). IsSound o.now.store) call (sound_store (machine_after_event images s (Call number words)) (has_store (machine_after_event images s (Call number words)) after)) in
    let held' : IsByteHeld u.store o.now.store start a =
    subst (λ (t : Store). IsByteHeld t o.now.store start a) (sym stays) (subst (λ (o : StepOutcome). IsByteHeld s.store o.now.store start a) call held) in
    let byte = call_byte images u (given_heaps s u (has_heaps s state) same) start a true u.cpu.pc (without_x (number % 2 ^ 24)) sound held' in
    subst (λ (p : StepOutcome). (p.now.store.bytes.at a ≡ s.store.bytes.at a) ⊎ MayChange s p.now (Call number words) start a) (sym call)
    (named_call _ _ _ (subst (λ (t : Store). (o.now.store.bytes.at a ≡ t.bytes.at a)
    ⊎ (((is_flex_name (outside_name number) ≡ true) × IsAnchorByte t o.now.store a)
    ⊎ (((start ≡ module_area_start) × ((is_module_name (outside_name number) && begins_tidy u u.cpu.pc) ≡ true))
    ⊎ IsOfInnerHeap (outside_name number) u.cpu t o.now start a))) stays byte))

pub live_bytes_stay : LiveBytesStay
live_bytes_stay images s Step start a state after held = step_stays images s start a s.halt refl state after held
live_bytes_stay images s (Call number words) start a state after held = call_stays images s number words start a s.halt refl state after held
