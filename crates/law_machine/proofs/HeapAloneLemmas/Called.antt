-- What a call that isn't of OS_Module leaves of a heap that isn't the one it is made on: all of it,
-- where it leaves it whole.
use Rattle.std.proofs.Common.{ℕ, ◌≡◌, ◌==◌, Bool, true, false, length, List, option_map, Option, Some, None, Result, Ok, Err, refl, sym, subst, if◌then◌else◌}
use Rattle.std.proofs.lemmas.Bool.{true≢false}
use Rattle.profile.specs.Outcome.{bind}
use Rattle.profile.specs.Reasons.{area_reason, heap_reason}
use Rattle.profile.specs.SwiNames.{swi_of}
use Rattle.profile.specs.ErrorNumber.{ErrorNumber}
use Rattle.profile.specs.ErrorNumber.TheVariants.{FrameLimit, SwiUnknown}
use Rattle.profile.specs.declared.reason.HeapReason.{HeapReason}
use Rattle.profile.specs.declared.swi.SwiName.{SwiName}
use Rattle.profile.specs.declared.swi.SwiName.TheVariants as swi
use Rattle.arm_core.specs.State.{State, register_of, with_register}
use Rattle.profile.specs.images.Entries.{Entry}
use Rattle.os_heap_words.specs.lists.Heap.{HeapList}
use Rattle.os_heap.specs.Calls.{has_own_size}
use Rattle.os_heap.specs.Store.{IsSound, Store, find_heap}
use Rattle.dynamic_areas.specs.Areas.{extent_asked}
use Rattle.dynamic_areas.specs.declared.area.Extent.{Extent}
use Rattle.instances_table.specs.Lookup.{handler_of}
use Rattle.instances_table.specs.declared.parts.Handler.{Handler}
use Rattle.flex_store.specs.Calls.{flex_block_size}
use Rattle.law_machine.proofs.HeapCallsLemmas.WholeHeaps.{others_whole}
use Rattle.law_machine.specs.heap_calls.Laws.{HeapHasNoAnchor, IsLeftWhole, KeepsHeap}
use Rattle.law_machine.specs.heap_calls.Lists.{is_call_to}
use Rattle.law_machine.specs.heap_calls.Turns.{call_on}
use Rattle.swi_dispatch_guest.specs.Refusals.{or_error}
use Rattle.swi_dispatch_guest.specs.Refusal.{Refusal}
use Rattle.swi_dispatch_guest.specs.Refusal.TheVariants as refusal
use Rattle.swi_dispatch_guest.specs.SwiDispatchFlexCalls.{flex_called, state_in}
use Rattle.swi_dispatch_guest.specs.Areas.{area_called, area_changed, area_read, change_asked, with_extent}
use Rattle.swi_dispatch_guest.specs.Heaps.{heap_called, heap_called_for}
use Rattle.swi_dispatch_guest.specs.declared.halt.Halt.TheVariants as halt
use Rattle.swi_dispatch_guest.specs.Answers.{Answer, refusal_answer, went_on}
use Rattle.swi_dispatch_guest.specs.Calls.{call_answer, machine_flex, on_area_store, on_flex, on_store, printable_at, with_guest, wrote_text_after, wrote_text_at}
use Rattle.swi_dispatch_guest.specs.MachineState.{MachineState, StepOutcome, machine_area_store, silent}
use Rattle.swi_dispatch_guest.specs.Returns.{outcome_of_halt}
use Rattle.swi_dispatch_guest.specs.Step.{call_of, call_refused, outcome_of_call, called_by, outcome_of_answer, handler_entered, is_exit, outcome_of_module_swi as handler_called}
use Rattle.law_machine.proofs.HeapAloneLemmas.HeapAnswers.{Agree, heap_agrees}
use Rattle.law_machine.proofs.HeapAloneLemmas.Keeping.{AnswerKeeps, IsOffSystem, KeepsWhole, Went, ended_keeps, off_system}
use Rattle.law_machine.proofs.HeapAloneLemmas.Rows.{NamesNone, area_went, change_keeps, flex_went, is_flex_call}
use Rattle.law_machine.proofs.HeapAloneLemmas.States.{HasStore, sound_store}
use Rattle.law_machine.specs.heap_alone.ModuleMoves.{is_module_name}
use Rattle.law_machine.proofs.HeapFrameLemmas.Areas.{heap_same}

-- OS_Heap, if that is the call, isn't called on the heap
abbrev pub IsElsewhere : MachineState → HeapList → Option HeapReason → Type 0
IsElsewhere s h None = Unit {0}
IsElsewhere s h (Some why) = is_call_to h.start (register_of s.cpu 1) why ≡ false

abbrev pub IsHeapElsewhere : MachineState → HeapList → Option SwiName → Type 0
IsHeapElsewhere s h (Some swi.Heap) = IsElsewhere s h (heap_reason (register_of s.cpu 0))
IsHeapElsewhere s h other = Unit {0}

-- the handler of a module's SWI is entered, unless too many frames are open
abbrev handler_if : MachineState → Bool → ℕ → ℕ → Handler → Bool → StepOutcome
handler_if s x next number handler full =
    if full then call_refused s x next FrameLimit else silent (handler_entered s (call_of s x next false) number handler)

module _ (images : List Entry) (s : MachineState) (h : HeapList) (has : HasStore s) (found : find_heap h.start s.store.heaps ≡ Some h)
    (own : has_own_size h.kind ≡ true) (anchors : HeapHasNoAnchor s.store h) where
  same : KeepsHeap h s.store s.store
  same = heap_same h s.store found

  off : IsOffSystem h
  off = off_system s h has found

  abbrev Keeps : Answer → Type 0
  Keeps a = AnswerKeeps h s.store a.left.now.store a.error

  went_keeps : (next : ℕ) (r : Result MachineState Refusal) → Went h s.store r → Keeps (went_on s next r)
  went_keeps next (Ok t) went = went
  went_keeps next (Err e) went = same

  text_after : (next : ℕ) (o : Option (List ℕ)) → Keeps (wrote_text_after s next o)
  text_after next None = same
  text_after next (Some text) = λ _ _. same

  text_at : (next at : ℕ) (o : Option (List ℕ)) → Keeps (wrote_text_at s next at o)
  text_at next at None = same
  text_at next at (Some text) = λ _ _. same

  read_went : (r : Result Extent ErrorNumber) → Went h s.store (on_area_store s (bind (or_error r) (λ x. Ok (with_extent s.cpu x, machine_area_store s))))
  read_went (Ok x) = λ _ _. same
  read_went (Err e) = tt

  -- OS_Heap on another heap, and one that makes a heap
  heap_by : (why : HeapReason) (q : Result (State × Store) Refusal) (r : Result (Store × (ℕ × ℕ)) ErrorNumber) → Agree q r
      → call_on s.store (register_of s.cpu 1) why (register_of s.cpu 2) (register_of s.cpu 3) ≡ r
      → is_call_to h.start (register_of s.cpu 1) why ≡ false → Went h s.store (on_store s q)
  heap_by why (Ok q) (Ok r) agree is other = λ sound left.
      let sound' : IsSound r.0 = subst IsSound agree.0 sound in
      let left' : IsLeftWhole r.0 h.start = subst (λ (t : Store). IsLeftWhole t h.start) agree.0 left in
      subst (KeepsHeap h s.store) (sym agree.0)
      (others_whole s.store r.0 h (register_of s.cpu 1) why (register_of s.cpu 2) (register_of s.cpu 3) r.1 (sound_store s has) sound' found other is left')
  heap_by why (Err e) (Err number) agree is other = tt
  heap_by why (Ok q) (Err number) agree is other = absurd agree
  heap_by why (Err e) (Ok r) agree is other = absurd agree

  heap_went : (o : Option HeapReason) → IsElsewhere s h o → Went h s.store (on_store s (heap_called_for s.cpu s.store o))
  heap_went None other = tt
  heap_went (Some why) other =
      heap_by why (heap_called_for s.cpu s.store (Some why)) (call_on s.store (register_of s.cpu 1) why (register_of s.cpu 2) (register_of s.cpu 3))
      (heap_agrees s.cpu has.size s.store why) refl other

  heap_keeps : (next : ℕ) → IsElsewhere s h (heap_reason (register_of s.cpu 0)) → Keeps (went_on s next (on_store s (heap_called s.cpu s.store)))
  unfolding heap_called
  heap_keeps next other = went_keeps next (on_store s (heap_called s.cpu s.store)) (heap_went (heap_reason (register_of s.cpu 0)) other)

  read_keeps : (next : ℕ) → Keeps (went_on s next (on_area_store s (area_read s.cpu (machine_area_store s))))
  unfolding area_read
  read_keeps next =
      went_keeps next (on_area_store s (area_read s.cpu (machine_area_store s))) (read_went (extent_asked s.tables.area_table.areas (register_of s.cpu 0)))

  size_went : (r : Result ℕ ErrorNumber) → Went h s.store (on_flex s (bind (or_error r) (λ n. Ok (with_register s.cpu 0 n, machine_flex s))))
  size_went (Ok n) = λ _ _. same
  size_went (Err e) = tt

  size_keeps : (next : ℕ) → Keeps (went_on s next (on_flex s (flex_called s.cpu (machine_flex s) (Some swi.FlexSize))))
  unfolding flex_called
  size_keeps next =
      went_keeps next (on_flex s (flex_called s.cpu (machine_flex s) (Some swi.FlexSize)))
      (size_went (flex_block_size (state_in (machine_flex s)) (register_of s.cpu 0)))

  unknown_keeps : (next : ℕ) → Keeps (went_on s next (on_flex s (flex_called s.cpu (machine_flex s) None)))
  unfolding flex_called
  unknown_keeps next = same

  exit_keeps : (next : ℕ) → Keeps (went_on s next (on_flex s (flex_called s.cpu (machine_flex s) (Some swi.Exit))))
  unfolding flex_called
  exit_keeps next = same

  flex_keeps : (next : ℕ) (name : Option SwiName) → is_flex_call name ≡ true → NamesNone s h name
      → Keeps (went_on s next (on_flex s (flex_called s.cpu (machine_flex s) name)))
  flex_keeps next name flex outside =
      went_keeps next (on_flex s (flex_called s.cpu (machine_flex s) name)) (flex_went s h has found own name flex outside anchors)

  area_keeps : (next : ℕ) → Keeps (went_on s next (on_area_store s (area_called s.cpu (machine_area_store s))))
  unfolding area_called
  area_keeps next =
      went_keeps next (on_area_store s (area_called s.cpu (machine_area_store s))) (area_went s h has found own (area_reason (register_of s.cpu 0)))

  -- a change of an area may have changed something and err
  change_answers : (next : ℕ) (o : Option ErrorNumber)
      → AnswerKeeps h s.store (with_guest s (area_changed s.cpu (machine_area_store s))).store (option_map refusal.System o)
  change_answers next None = λ _ _. change_keeps s h has found own
  change_answers next (Some e) = change_keeps s h has found own

  answer_keeps : (next number : ℕ) (name : Option SwiName) → is_module_name name ≡ false → IsHeapElsewhere s h name → NamesNone s h name → Keeps (call_answer s next number name)
  unfolding call_answer
  answer_keeps next number (Some swi.WriteC) another other outside = λ _ _. same
  answer_keeps next number (Some swi.WriteS) another other outside = text_after next (printable_at s.store.bytes next)
  answer_keeps next number (Some swi.Write0) another other outside = text_at next (register_of s.cpu 0) (printable_at s.store.bytes (register_of s.cpu 0))
  answer_keeps next number (Some swi.NewLine) another other outside = λ _ _. same
  answer_keeps next number (Some swi.Exit) another other outside = exit_keeps next
  answer_keeps next number (Some swi.EnterOs) another other outside = λ _ _. same
  answer_keeps next number (Some swi.Heap) another other outside = heap_keeps next other
  answer_keeps next number (Some swi.Module) another other outside = absurd (true≢false another)
  answer_keeps next number (Some swi.ChangeDynamicArea) another other outside =
      change_answers next (change_asked s.cpu (machine_area_store s)).error
  answer_keeps next number (Some swi.GenerateError) another other outside = same
  answer_keeps next number (Some swi.ReadDynamicArea) another other outside = read_keeps next
  answer_keeps next number (Some swi.DynamicArea) another other outside = area_keeps next
  answer_keeps next number (Some swi.WriteI) another other outside = λ _ _. same
  answer_keeps next number (Some swi.FlexInit) another other outside = flex_keeps next (Some swi.FlexInit) refl outside
  answer_keeps next number (Some swi.FlexAlloc) another other outside = flex_keeps next (Some swi.FlexAlloc) refl outside
  answer_keeps next number (Some swi.FlexFree) another other outside = flex_keeps next (Some swi.FlexFree) refl outside
  answer_keeps next number (Some swi.FlexSize) another other outside = size_keeps next
  answer_keeps next number (Some swi.FlexExtend) another other outside = flex_keeps next (Some swi.FlexExtend) refl outside
  answer_keeps next number (Some swi.FlexMidExtend) another other outside = flex_keeps next (Some swi.FlexMidExtend) refl outside
  answer_keeps next number None another other outside = unknown_keeps next

  -- a SWI of a module
  refused_keeps : (x : Bool) (next : ℕ) (e : ErrorNumber) → KeepsWhole h s.store (outcome_of_answer s x (refusal_answer s next (refusal.System e))).now.store
  refused_keeps x next e = ended_keeps h s x (refusal_answer s next (refusal.System e)) off found same

  module_keeps : (x : Bool) (next number : ℕ) (o : Option Handler) → KeepsWhole h s.store (handler_called s x next number o).now.store
  module_keeps x next number None = refused_keeps x next SwiUnknown
  module_keeps x next number (Some handler) = frames_by (length s.tables.frames == 32) where
    frames_by : (full : Bool) → KeepsWhole h s.store (handler_if s x next number handler full).now.store
    frames_by true = refused_keeps x next FrameLimit
    frames_by false = λ _ _. same

  name_keeps : (x : Bool) (next number : ℕ) (name : Option SwiName) → is_module_name name ≡ false → IsHeapElsewhere s h name → NamesNone s h name
      → KeepsWhole h s.store (called_by images s x next number name).now.store
  name_keeps x next number None another other outside = module_keeps x next number (handler_of number s.tables.modules)
  name_keeps x next number (Some swi.Module) another other outside = absurd (true≢false another)
  name_keeps x next number (Some name) another other outside =
      ended_keeps h s x (call_answer s next number (Some name)) off found (answer_keeps next number (Some name) another other outside)

  exit_or : (x : Bool) (next number : ℕ) (name : Option SwiName) (exits : Bool) → is_module_name name ≡ false → IsHeapElsewhere s h name → NamesNone s h name
      → KeepsWhole h s.store (if exits then outcome_of_halt s halt.Exit else called_by images s x next number name).now.store
  exit_or x next number name true another other outside = λ _ _. same
  exit_or x next number name false another other outside = name_keeps x next number name another other outside

  pub called_keeps : (x : Bool) (next number : ℕ) → is_module_name (swi_of number) ≡ false → IsHeapElsewhere s h (swi_of number) → NamesNone s h (swi_of number)
      → KeepsWhole h s.store (outcome_of_call images s x next number).now.store
  unfolding outcome_of_call
  called_keeps x next number another other outside = exit_or x next number (swi_of number) (is_exit (swi_of number)) another other outside
