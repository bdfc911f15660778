-- Which heaps are recorded after a move.
use Rattle.profile.specs.MemoryMap.{module_area_start}
use Rattle.swi_dispatch_guest.specs.Moves.{Call, Step, core_of, machine_with_words, machine_after_event, outside_name, swi_made, swi_of_turn}
use Rattle.std.proofs.Common.{ℕ, ◌≡◌, ◌≢◌, ◌+◌, ◌%◌, ◌^◌, ◌==◌, ◌||◌, ◌∙◌, Bool, true, false, length, List, is_some, Option, Some, None, Result, Ok, Err, refl, sym, ap, subst, inl, inr, if◌then◌else◌}
use Rattle.std.proofs.lemmas.Bool.{both_ways, cases_Bool, false_from_ne_true, false≢true, or_parts, true≢false}
use Rattle.profile.specs.Outcome.{bind}
use Rattle.profile.specs.Reasons.{area_reason, heap_reason}
use Rattle.profile.specs.SwiNames.{swi_of}
use Rattle.profile.specs.Word.{bit_of}
use Rattle.profile.specs.ErrorNumber.{ErrorNumber}
use Rattle.profile.specs.ErrorNumber.TheVariants.{FrameLimit, SwiUnknown}
use Rattle.profile.specs.declared.reason.HeapReason.{HeapReason}
use Rattle.profile.specs.declared.swi.SwiName.{SwiName}
use Rattle.profile.specs.declared.swi.SwiName.TheVariants as swi
use Rattle.address_map.specs.Bytes.{Bytes}
use Rattle.arm_core.specs.State.{State, register_of, with_register}
use Rattle.arm_core.specs.declared.turn.StepEnd.{StepEnd}
use Rattle.arm_core.specs.declared.turn.StepEnd.TheVariants as turn
use Rattle.dynamic_areas.specs.Areas.{extent_asked}
use Rattle.dynamic_areas.specs.declared.area.Extent.{Extent}
use Rattle.swi_dispatch_guest.specs.Ground.{with_flex_record}
use Rattle.flex_store.specs.Calls.{FlexState, flex_after_alloc, flex_after_init, flex_after_extend, mid_extended, flex_after_release, flex_block_size}
use Rattle.profile.specs.images.Entries.{Entry}
use Rattle.instances_table.specs.Lookup.{handler_of}
use Rattle.instances_table.specs.declared.parts.Handler.{Handler}
use Rattle.os_heap_words.specs.lists.Heap.{HeapList}
use Rattle.os_heap.proofs.Found.{found_start}
use Rattle.os_heap.specs.Calls.{has_own_size}
use Rattle.os_heap.specs.Store.{Store, find_heap}
use Rattle.law_machine.proofs.HeapCallsLemmas.Forgotten.{calls_forget, forgotten_lies}
use Rattle.law_machine.specs.heap_calls.Laws.{IsNotForgotten, KeepsHeap, LiesInBlock}
use Rattle.law_machine.specs.heap_calls.Turns.{call_on}
use Rattle.law_machine.specs.heap_frame.Fits.{LiesInArea}
use Rattle.swi_dispatch_guest.specs.Refusals.{or_error}
use Rattle.swi_dispatch_guest.specs.Refusal.{Refusal}
use Rattle.swi_dispatch_guest.specs.Refusal.TheVariants as refusal
use Rattle.swi_dispatch_guest.specs.SwiDispatchFlexCalls.{fit_shown, flex_called, memory_after_flex, state_in}
use Rattle.swi_dispatch_guest.specs.Areas.{area_called, area_changed, area_read, with_extent}
use Rattle.swi_dispatch_guest.specs.Heaps.{heap_called, heap_called_for}
use Rattle.swi_dispatch_guest.specs.declared.halt.Halt.TheVariants as halt
use Rattle.swi_dispatch_guest.proofs.NextTurn.{unhalted_step, outside_call}
use Rattle.swi_dispatch_guest.specs.Answers.{Answer, refusal_answer, went_on}
use Rattle.swi_dispatch_guest.specs.Calls.{call_answer, machine_flex, on_area_store, on_flex, on_store, printable_at, with_guest, wrote_text_after, wrote_text_at}
use Rattle.swi_dispatch_guest.specs.MachineState.{MachineState, StepOutcome, machine_area_store, silent}
use Rattle.swi_dispatch_guest.specs.Returns.{outcome_of_halt}
use Rattle.swi_dispatch_guest.specs.Step.{call_of, call_refused, outcome_of_call, called_by, outcome_of_answer, outcome_of_end, handler_entered, result_of_instruction, is_exit, outcome_of_module_swi as handler_called, outcome_of_turn, without_x}
use Rattle.law_machine.proofs.HeapAloneLemmas.HeapAnswers.{Agree, heap_agrees}
use Rattle.law_machine.proofs.HeapAloneLemmas.LiveBytes.{call_goes}
use Rattle.law_machine.proofs.HeapAloneLemmas.ModuleMoves.{module_moves_keep}
use Rattle.law_machine.proofs.HeapAloneLemmas.OwnCalls.{heap_swi}
use Rattle.law_machine.proofs.HeapAloneLemmas.Rows.{Left, area_left, change_keeps}
use Rattle.law_machine.proofs.HeapAloneLemmas.States.{HasStore, IsGiven, given_goes, given_same, given_stays, given_store, has_store, sound_store}
use Rattle.law_machine.specs.heap_alone.FoundLaws.{FreesHeap, HeapCallsForgetFreed, OtherMovesForgetNone, OuterHeapsStay}
use Rattle.law_machine.specs.heap_alone.ModuleMoves.{is_at_gate, is_module_move, is_module_name}
use Rattle.law_machine.specs.heap_alone.Moves.{is_heap_swi}

not_heap : (name : Option SwiName) → name ≢ Some swi.Heap → is_heap_swi name ≡ false
not_heap name other = false_from_ne_true (is_heap_swi name) (λ is. other (heap_swi name is))

-- what is said of a call that is done
abbrev Stays : ℕ → Result MachineState Refusal → Type 0
Stays start (Ok t) = IsNotForgotten t.store start
Stays start (Err e) = Unit {0}

-- An error changes bytes alone.
answered_by : (start : ℕ) (s : MachineState) (x : Bool) (a : Answer) (error : Option Refusal) → IsNotForgotten s.store start
    → IsNotForgotten a.left.now.store start → IsNotForgotten (outcome_of_end s x a error).now.store start
answered_by start s x a None same stays = stays
answered_by start s true a (Some (refusal.System e)) same stays = stays
answered_by start s true a (Some refusal.Own) same stays = stays
answered_by start s false a (Some e) same stays = same

module _ (images : List Entry) (s : MachineState) (h : HeapList) (has : HasStore s) (found : find_heap h.start s.store.heaps ≡ Some h)
    (own : has_own_size h.kind ≡ true) where
  same : IsNotForgotten s.store h.start
  same = ap is_some found

  answered : (x : Bool) (a : Answer) → IsNotForgotten a.left.now.store h.start → IsNotForgotten (outcome_of_answer s x a).now.store h.start
  answered x a stays = answered_by h.start s x a a.error same stays

  went : (next : ℕ) (r : Result MachineState Refusal) → Stays h.start r → IsNotForgotten (went_on s next r).left.now.store h.start
  went next (Ok t) stays = stays
  went next (Err e) stays = same

  left_stays : (r : Result MachineState Refusal) → Left h s.store r → Stays h.start r
  left_stays (Ok t) left = ap is_some left.found
  left_stays (Err e) left = tt

  text_after : (next : ℕ) (o : Option (List ℕ)) → IsNotForgotten (wrote_text_after s next o).left.now.store h.start
  text_after next None = same
  text_after next (Some text) = same

  text_at : (next at : ℕ) (o : Option (List ℕ)) → IsNotForgotten (wrote_text_at s next at o).left.now.store h.start
  text_at next at None = same
  text_at next at (Some text) = same

  read_by : (r : Result Extent ErrorNumber) → Stays h.start (on_area_store s (bind (or_error r) (λ x. Ok (with_extent s.cpu x, machine_area_store s))))
  read_by (Ok x) = same
  read_by (Err e) = tt

  read_stays : (next : ℕ) → IsNotForgotten (went_on s next (on_area_store s (area_read s.cpu (machine_area_store s)))).left.now.store h.start
  unfolding area_read
  read_stays next =
      went next (on_area_store s (area_read s.cpu (machine_area_store s))) (read_by (extent_asked s.tables.area_table.areas (register_of s.cpu 0)))

  area_stays : (next : ℕ) → IsNotForgotten (went_on s next (on_area_store s (area_called s.cpu (machine_area_store s)))).left.now.store h.start
  unfolding area_called
  area_stays next =
      went next (on_area_store s (area_called s.cpu (machine_area_store s)))
      (left_stays (on_area_store s (area_called s.cpu (machine_area_store s))) (area_left s h has found own (area_reason (register_of s.cpu 0))))

  -- flex calls change no list of heaps
  fit_stays : (places : Store) (r : Result (FlexState × Bool) ErrorNumber) → places.heaps ≡ s.store.heaps
      → Stays h.start (on_flex s (fit_shown s.cpu (memory_after_flex places r)))
  fit_stays places (Ok q) heaps = ap (λ (hs : List HeapList). is_some (find_heap h.start hs)) heaps ∙ same
  fit_stays places (Err e) heaps = tt

  silent_stays : (places : Store) (r : Result (FlexState × Unit {0}) ErrorNumber) → places.heaps ≡ s.store.heaps
      → Stays h.start (on_flex s (bind (or_error (memory_after_flex places r)) (λ q. Ok (s.cpu, q.0))))
  silent_stays places (Ok q) heaps = ap (λ (hs : List HeapList). is_some (find_heap h.start hs)) heaps ∙ same
  silent_stays places (Err e) heaps = tt

  size_stays : (r : Result ℕ ErrorNumber) → Stays h.start (on_flex s (bind (or_error r) (λ n. Ok (with_register s.cpu 0 n, machine_flex s))))
  size_stays (Ok n) = same
  size_stays (Err e) = tt

  flex_by : (name : Option SwiName) → Stays h.start (on_flex s (flex_called s.cpu (machine_flex s) name))
  unfolding flex_called
  flex_by (Some swi.FlexInit) =
      silent_stays (with_flex_record s.store (register_of s.cpu 0) (register_of s.cpu 1))
      (flex_after_init s.store (state_in (machine_flex s)) (register_of s.cpu 0) (register_of s.cpu 1)) refl
  flex_by (Some swi.FlexAlloc) = fit_stays s.store (flex_after_alloc s.store (state_in (machine_flex s)) (register_of s.cpu 0) (register_of s.cpu 1)) refl
  flex_by (Some swi.FlexFree) = silent_stays s.store (flex_after_release (state_in (machine_flex s)) (register_of s.cpu 0)) refl
  flex_by (Some swi.FlexSize) = size_stays (flex_block_size (state_in (machine_flex s)) (register_of s.cpu 0))
  flex_by (Some swi.FlexExtend) = fit_stays s.store (flex_after_extend (state_in (machine_flex s)) (register_of s.cpu 0) (register_of s.cpu 1)) refl
  flex_by (Some swi.FlexMidExtend) =
      fit_stays s.store (mid_extended (state_in (machine_flex s)) (register_of s.cpu 0) (register_of s.cpu 1) (register_of s.cpu 2)) refl
  flex_by other = tt

  flex_stays : (next : ℕ) (name : Option SwiName) → IsNotForgotten (went_on s next (on_flex s (flex_called s.cpu (machine_flex s) name))).left.now.store h.start
  flex_stays next name = went next (on_flex s (flex_called s.cpu (machine_flex s) name)) (flex_by name)

  change_stays : IsNotForgotten (with_guest s (area_changed s.cpu (machine_area_store s))).store h.start
  change_stays = let kept : KeepsHeap h s.store (with_guest s (area_changed s.cpu (machine_area_store s))).store = change_keeps s h has found own in ap is_some kept.found

  answer_stays : (next number : ℕ) (name : Option SwiName) → is_module_name name ≡ false → is_heap_swi name ≡ false
      → IsNotForgotten (call_answer s next number name).left.now.store h.start
  unfolding call_answer
  answer_stays next number (Some swi.WriteC) another other = same
  answer_stays next number (Some swi.WriteS) another other = text_after next (printable_at s.store.bytes next)
  answer_stays next number (Some swi.Write0) another other = text_at next (register_of s.cpu 0) (printable_at s.store.bytes (register_of s.cpu 0))
  answer_stays next number (Some swi.NewLine) another other = same
  answer_stays next number (Some swi.Exit) another other = flex_stays next (Some swi.Exit)
  answer_stays next number (Some swi.EnterOs) another other = same
  answer_stays next number (Some swi.Heap) another other = absurd (true≢false other)
  answer_stays next number (Some swi.Module) another other = absurd (true≢false another)
  answer_stays next number (Some swi.ChangeDynamicArea) another other = change_stays
  answer_stays next number (Some swi.GenerateError) another other = same
  answer_stays next number (Some swi.ReadDynamicArea) another other = read_stays next
  answer_stays next number (Some swi.DynamicArea) another other = area_stays next
  answer_stays next number (Some swi.WriteI) another other = same
  answer_stays next number (Some swi.FlexInit) another other = flex_stays next (Some swi.FlexInit)
  answer_stays next number (Some swi.FlexAlloc) another other = flex_stays next (Some swi.FlexAlloc)
  answer_stays next number (Some swi.FlexFree) another other = flex_stays next (Some swi.FlexFree)
  answer_stays next number (Some swi.FlexSize) another other = flex_stays next (Some swi.FlexSize)
  answer_stays next number (Some swi.FlexExtend) another other = flex_stays next (Some swi.FlexExtend)
  answer_stays next number (Some swi.FlexMidExtend) another other = flex_stays next (Some swi.FlexMidExtend)
  answer_stays next number None another other = flex_stays next None

  refused_stays : (x : Bool) (next : ℕ) (e : ErrorNumber) → IsNotForgotten (call_refused s x next e).now.store h.start
  refused_stays x next e = answered x (refusal_answer s next (refusal.System e)) same

  handled_by : (x : Bool) (next number : ℕ) (handler : Handler) (full : Bool)
      → IsNotForgotten (if full then call_refused s x next FrameLimit else silent (handler_entered s (call_of s x next false) number handler)).now.store h.start
  handled_by x next number handler true = refused_stays x next FrameLimit
  handled_by x next number handler false = same

  handler_stays : (x : Bool) (next number : ℕ) (o : Option Handler) → IsNotForgotten (handler_called s x next number o).now.store h.start
  handler_stays x next number None = refused_stays x next SwiUnknown
  handler_stays x next number (Some handler) = handled_by x next number handler (length s.tables.frames == 32)

  name_stays : (x : Bool) (next number : ℕ) (name : Option SwiName) → is_module_name name ≡ false → is_heap_swi name ≡ false
      → IsNotForgotten (called_by images s x next number name).now.store h.start
  name_stays x next number None another other = handler_stays x next number (handler_of number s.tables.modules)
  name_stays x next number (Some swi.Module) another other = absurd (true≢false another)
  name_stays x next number (Some name) another other = answered x (call_answer s next number (Some name)) (answer_stays next number (Some name) another other)

  exit_or : (x : Bool) (next number : ℕ) (name : Option SwiName) (exits : Bool) → is_module_name name ≡ false → is_heap_swi name ≡ false
      → IsNotForgotten (if exits then outcome_of_halt s halt.Exit else called_by images s x next number name).now.store h.start
  exit_or x next number name true another other = same
  exit_or x next number name false another other = name_stays x next number name another other

  pub called_stays : (x : Bool) (next number : ℕ) → is_module_name (swi_of number) ≡ false → is_heap_swi (swi_of number) ≡ false
      → IsNotForgotten (outcome_of_call images s x next number).now.store h.start
  unfolding outcome_of_call
  called_stays x next number another other = exit_or x next number (swi_of number) (is_exit (swi_of number)) another other

  -- OS_Heap
  abbrev Loses : Result MachineState Refusal → Type 0
  Loses (Ok t) = find_heap h.start t.store.heaps ≡ None → FreesHeap s.store s.cpu h.start
  Loses (Err e) = Unit {0}

  heap_by : (why : HeapReason) (q : Result (State × Store) Refusal) (r : Result (Store × (ℕ × ℕ)) ErrorNumber) → Agree q r
      → heap_reason (register_of s.cpu 0) ≡ Some why
      → call_on s.store (register_of s.cpu 1) why (register_of s.cpu 2) (register_of s.cpu 3) ≡ r → Loses (on_store s q)
  heap_by why (Ok q) (Ok r) agree reported is = λ none. record {
    why = why;
    is = reported;
    forgotten = (calls_forget s.store r.0 h (register_of s.cpu 1) why (register_of s.cpu 2) (register_of s.cpu 3) r.1 (sound_store s has) found is).0
        (ap (λ (t : Store). find_heap h.start t.heaps) (sym agree.0) ∙ none);
  }
  heap_by why (Err e) (Err number) agree reported is = tt
  heap_by why (Ok q) (Err number) agree reported is = absurd agree
  heap_by why (Err e) (Ok r) agree reported is = absurd agree

  heap_loses : (o : Option HeapReason) → heap_reason (register_of s.cpu 0) ≡ o → Loses (on_store s (heap_called_for s.cpu s.store o))
  heap_loses None reported = tt
  heap_loses (Some why) reported =
      heap_by why (heap_called_for s.cpu s.store (Some why)) (call_on s.store (register_of s.cpu 1) why (register_of s.cpu 2) (register_of s.cpu 3))
      (heap_agrees s.cpu has.size s.store why) reported refl

  not_lost : (t : Store) → IsNotForgotten t h.start → find_heap h.start t.heaps ≡ None → FreesHeap s.store s.cpu h.start
  not_lost t stays none = absurd (false≢true (sym (ap is_some none) ∙ stays))

  ended_loses : (x : Bool) (next : ℕ) (r : Result MachineState Refusal) → Loses r
      → find_heap h.start (outcome_of_answer s x (went_on s next r)).now.store.heaps ≡ None → FreesHeap s.store s.cpu h.start
  ended_loses x next (Ok t) loses none = loses none
  ended_loses x next (Err e) loses none =
      not_lost (outcome_of_answer s x (went_on s next (Err e))).now.store (answered x (went_on s next (Err e)) same) none

  heap_ended : (x : Bool) (next : ℕ) → find_heap h.start (outcome_of_answer s x (went_on s next (on_store s (heap_called s.cpu s.store)))).now.store.heaps ≡ None
      → FreesHeap s.store s.cpu h.start
  unfolding heap_called
  heap_ended x next none =
      ended_loses x next (on_store s (heap_called_for s.cpu s.store (heap_reason (register_of s.cpu 0)))) (heap_loses (heap_reason (register_of s.cpu 0)) refl) none

  pub called_loses : (x : Bool) (next number : ℕ) → swi_of number ≡ Some swi.Heap → find_heap h.start (outcome_of_call images s x next number).now.store.heaps ≡ None
      → FreesHeap s.store s.cpu h.start
  called_loses x next number name none =
      heap_ended x next (ap (λ (o : StepOutcome). find_heap h.start o.now.store.heaps) (sym (call_goes s has images x next number name)) ∙ none)

  -- what a turn of the core asks for
  pub turn_stays : (r : Result (State × Bytes) StepEnd) → swi_of_turn r ≢ Some swi.Heap → (is_module_name (swi_of_turn r) || is_at_gate r) ≡ false
      → IsNotForgotten (outcome_of_turn images s r).now.store h.start
  turn_stays (Ok w) other another = same
  turn_stays (Err turn.Done) other another = same
  turn_stays (Err (turn.Swi n)) other another =
      called_stays (bit_of n 17) ((s.cpu.pc + 4) % 2 ^ 26) (without_x n) (or_parts (is_module_name (swi_of (without_x n))) false another).0
      (not_heap (swi_of (without_x n)) other)
  turn_stays (Err turn.Gate) other another = absurd (true≢false another)
  turn_stays (Err (turn.Fault f)) other another = same

  pub turn_loses : (r : Result (State × Bytes) StepEnd) → swi_of_turn r ≡ Some swi.Heap → find_heap h.start (outcome_of_turn images s r).now.store.heaps ≡ None
      → FreesHeap s.store s.cpu h.start
  turn_loses (Ok w) name none = not_lost (outcome_of_turn images s (Ok w)).now.store same none
  turn_loses (Err turn.Done) name none = not_lost s.store same none
  turn_loses (Err (turn.Swi n)) name none = called_loses (bit_of n 17) ((s.cpu.pc + 4) % 2 ^ 26) (without_x n) name none
  turn_loses (Err turn.Gate) name none = absurd (let no : None ≡ Some swi.Heap = name in cc)
  turn_loses (Err (turn.Fault f)) name none = not_lost s.store same none

pub moves_forget_none : OtherMovesForgetNone
moves_forget_none images s h Step has other another =
    subst (λ (o : StepOutcome). IsNotForgotten o.now.store h.start) (sym (unhalted_step images s has.goes))
    (turn_stays images s h (has_store s has.state) has.found has.own (result_of_instruction s) other another)
moves_forget_none images s h (Call number words) has other another =
    let u : MachineState = machine_with_words s words in
    let store : HasStore s = has_store s has.state in
    let same : IsGiven s u = given_same s 0 words store.size in
    let stays : u.store ≡ s.store = given_stays s u same in
    subst (λ (o : StepOutcome). IsNotForgotten o.now.store h.start) (sym (outside_call images u number (given_goes s u same ∙ has.goes)))
    (called_stays images u h (given_store s u store same) (ap (λ (t : Store). find_heap h.start t.heaps) stays ∙ has.found) has.own true u.cpu.pc
    (without_x (number % 2 ^ 24)) another (not_heap (outside_name number) other))

pub heap_calls_forget : HeapCallsForgetFreed
heap_calls_forget images s h Step has name none =
    turn_loses images s h (has_store s has.state) has.found has.own (result_of_instruction s) name
    (ap (λ (o : StepOutcome). find_heap h.start o.now.store.heaps) (sym (unhalted_step images s has.goes)) ∙ none)
heap_calls_forget images s h (Call number words) has name none =
    let u : MachineState = machine_with_words s words in
    let store : HasStore s = has_store s has.state in
    let same : IsGiven s u = given_same s 0 words store.size in
    let stays : u.store ≡ s.store = given_stays s u same in
    subst (λ (t : Store). FreesHeap t u.cpu h.start) stays
    (called_loses images u h (given_store s u store same) (ap (λ (t : Store). find_heap h.start t.heaps) stays ∙ has.found) has.own true u.cpu.pc
    (without_x (number % 2 ^ 24)) name
    (ap (λ (o : StepOutcome). find_heap h.start o.now.store.heaps) (sym (outside_call images u number (given_goes s u same ∙ has.goes))) ∙ none))

-- a heap that lies in no block
area_block : (s : Store) (h : HeapList) → LiesInArea s h → LiesInBlock s h
area_block s h lies = record {
  outer = lies.area;
  found = subst (λ (p : ℕ). find_heap p s.heaps ≡ Some lies.area) (sym (found_start module_area_start s.heaps lies.area lies.round)) lies.round;
  within = lies.within;
}

is_there : (t : Store) (start : ℕ) → (find_heap start t.heaps ≡ None → ⊥) → IsNotForgotten t start
is_there t start there = by (find_heap start t.heaps) there where
  by : (o : Option HeapList) → (o ≡ None → ⊥) → is_some o ≡ true
  by None none = absurd (none refl)
  by (Some g) none = refl

pub outer_stay : OuterHeapsStay
outer_stay images s h m has outer = elim (cases_Bool (is_heap_swi (swi_made s m))) [
  | inl heap ↦ is_there (machine_after_event images s m).store h.start (λ none.
      let frees : FreesHeap s.store (core_of s m) h.start = heap_calls_forget images s h m has (heap_swi (swi_made s m) heap) none in
      let cpu : State = core_of s m in
      outer (forgotten_lies s.store h (register_of cpu 1) frees.why (register_of cpu 2) (register_of cpu 3)
      (sound_store s (has_store s has.state)) has.found frees.forgotten))
  | inr other ↦ elim (cases_Bool (is_module_move s m)) [
    | inl module_move ↦
        let kept : KeepsHeap h s.store (machine_after_event images s m).store =
        module_moves_keep images s h m has module_move (λ lies. absurd (outer (area_block s.store h lies))) in
        ap is_some kept.found
    | inr another ↦ moves_forget_none images s h m has (λ is. both_ways (is_heap_swi (swi_made s m)) other (ap is_heap_swi is)) another
  ]
]
