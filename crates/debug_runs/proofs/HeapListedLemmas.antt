-- OS_Heap writes words that its heap's list spells, but where it moves a block, and an error's block: so no word beyond the pages of
-- the heap is one that is listed.
use Rattle.std.proofs.Common.{◌≡◌, ◌≢◌, ◌∙◌, ◌⊎◌, ℕ, ◌+◌, ◌-◌, ◌*◌, ◌/◌, ◌%◌, ◌^◌, ◌<◌, ◌≤◌, ◌==◌, ◌&&◌, ◌||◌, Bool, true, false, not, nat_lt, List, [], ◌∷◌, ◌++◌, length, Option, Some, None, is_some, Result, Ok, Err, refl, sym, ap, subst, arith, inl, inr, length-append, if◌then◌else◌}
use Rattle.std.specs.Prelude.{option_map, unwrap_or}
use Rattle.std.proofs.lemmas.Bool.{and_parts, cases_Bool, eqb-true, eq-eqb, false≢true}
use Rattle.std.proofs.lemmas.Bool.Decides.{nat_tests}
use Rattle.profile.specs.MemoryMap.{error_block_start, return_gate}
use Rattle.profile.specs.ErrorNames.{error_name}
use Rattle.profile.specs.Reasons.{heap_reason}
use Rattle.profile.specs.SwiNames.{swi_of}
use Rattle.profile.specs.Fault.{Fault}
use Rattle.profile.specs.declared.reason.HeapReason.{HeapReason}
use Rattle.profile.specs.declared.reason.HeapReason.TheVariants as reason
use Rattle.profile.specs.declared.swi.SwiName.{SwiName}
use Rattle.profile.specs.declared.swi.SwiName.TheVariants as swi
use Rattle.profile.specs.images.Entries.{Entry}
use Rattle.address_map.specs.Bytes.{Bytes, in_range, word_at, word_loaded, word_start}
use Rattle.address_map.specs.Items.{is_heap_word, is_head, size_of}
use Rattle.arm_core.specs.Conditions.{condition_holds}
use Rattle.arm_core.specs.State.{State, register_of}
use Rattle.arm_core.specs.declared.turn.StepEnd.{StepEnd}
use Rattle.arm_core.specs.declared.turn.StepEnd.TheVariants as turn
use Rattle.arm_decode.specs.Decoded.{instruction_of_word}
use Rattle.arm_decode.specs.Fields.{condition_in}
use Rattle.arm_decode.specs.declared.action.Action.{Action}
use Rattle.arm_decode.specs.declared.action.Action.TheVariants as action
use Rattle.arm_decode.specs.declared.condition.Condition.{Condition}
use Rattle.law_machine.specs.Step.{acted_if_decoded, executed_if_fetched, result_of_action, result_of_step, result_of_word}
use Rattle.law_machine.specs.Store.{IsSound, Store, find_heap, owned_in}
use Rattle.law_machine.proofs.Found.{found_heap, found_start}
use Rattle.law_machine.specs.Heap.{HeapList, IsHeapIn}
use Rattle.law_machine.proofs.HeadWords.{head_inside}
use Rattle.debug_tables.specs.GuestState.{GuestState, IsGuest, IsState, state_of}
use Rattle.debug_tables.specs.MachineState.{MachineState}
use Rattle.law_machine.specs.SwiDispatchGuestMoves.{Step, swi_of_turn}
use Rattle.debug_tables.specs.Step.{machine_step, result_of_instruction, without_x}
use Rattle.law_machine.proofs.Kept.{short_name}
use Rattle.law_machine.specs.heap_alone.Storing.{is_stored, stores_by, stores_if_decoded, stores_if_fetched}
use Rattle.law_machine.specs.heap_alone.ModuleMoves.{is_at_gate}
use Rattle.law_machine.specs.live_bytes.HeapWrites.{IsHeadByte, IsWrittenFor}
use Rattle.law_machine.specs.other_bytes.MoveWrites.{IsErrorByte, IsOfCall, OtherBytesStay}
use Rattle.trace_text.specs.Cause.{cause_if_fetched, cause_of, swi_if_decoded, swi_of_action, swi_of_cause}
use Rattle.trace_text.specs.Leaving.{call_leaves, moves_no_block, named_call_stays}
use Rattle.trace_text.specs.TraceEffectsCause.{Cause}
use Rattle.trace_text.specs.TraceEffectsCause.TheVariants.{Gate, Unmapped, Skipped, Word}
use Rattle.trace_text.specs.Copies.{KeptStore, kept_of}
use Rattle.trace_text.specs.Words.{is_shown_elsewhere}
use Rattle.trace_text.specs.heaps.Limits.{limits_in, limits_of_heap}
use Rattle.trace_text.proofs.InsideLemmas.{IsInHeap, MayDiffer, all_inside, inside_by_bytes}
use Rattle.trace_text.specs.Words.{all_pages}
use Rattle.trace_text.specs.Below.{AreListedInside, has_error, pages_kept}
use Rattle.trace_text.specs.declared.start.Taking.{Taking}
use Rattle.trace_text.specs.Step.{ListsInside, is_heap_call, known_of, store_before, taking_of, taking_swi}

-- WHAT STANDS AT THE PROGRAM COUNTER

-- a software interrupt that is taken: the core does nothing else, and stores nothing
abbrev pub IsTaken : (ℕ → Bool) → State → Bytes → ℕ → Type 0
IsTaken owned s b n = (result_of_step owned s b ≡ Err (turn.Swi n)) × ((a : ℕ) → is_stored s b a ≡ false)

abbrev none_is : {U : Type 0} {n : ℕ} → None ≡ Some n → U
none_is is = absurd (false≢true (ap is_some is))

acted : (owned : ℕ → Bool) (s : State) (b : Bytes) (i : Action) (n : ℕ) → swi_of_action i ≡ Some n
    → (result_of_action owned s b i ≡ Err (turn.Swi n)) × ((a : ℕ) → stores_by s i a ≡ false)
unfolding result_of_action
acted owned s b (action.Operate o) n is = none_is is
acted owned s b (action.Multiply m) n is = none_is is
acted owned s b (action.Transfer t) n is = none_is is
acted owned s b (action.BlockTransfer t) n is = none_is is
acted owned s b (action.Branch links distance) n is = none_is is
acted owned s b (action.SoftwareInterrupt m) n is = (ap (λ (o : Option ℕ). Err (turn.Swi (unwrap_or o 0))) is, λ a. refl)

decoded : (owned : ℕ → Bool) (s : State) (b : Bytes) (i : Result (Condition × Action) Fault) (n : ℕ) → swi_if_decoded i ≡ Some n
    → (acted_if_decoded owned s b i ≡ Err (turn.Swi n)) × ((a : ℕ) → stores_if_decoded s i a ≡ false)
decoded owned s b (Ok i) n is = acted owned s b i.1 n is
decoded owned s b (Err f) n is = none_is is

fetched : (owned : ℕ → Bool) (s : State) (b : Bytes) (r : Result ℕ Fault) (n : ℕ) → swi_of_cause (cause_if_fetched s r) ≡ Some n
    → (executed_if_fetched owned s b r ≡ Err (turn.Swi n)) × ((a : ℕ) → stores_if_fetched s r a ≡ false)
fetched owned s b (Ok w) n is = elim (cases_Bool (condition_holds (condition_in w) s.psr)) [
  | inl met ↦
      let done = decoded owned s b (instruction_of_word w) n (rw met at is) in
      (rw met done.0, λ a. rw met (done.1 a))
  | inr fails ↦ none_is (rw fails at is)
]
fetched owned s b (Err f) n is = none_is is

taken : (owned : ℕ → Bool) (s : State) (b : Bytes) (n : ℕ) → swi_of_cause (cause_of s b) ≡ Some n → IsTaken owned s b n
unfolding result_of_step is_stored
taken owned s b n is = elim (cases_Bool (s.pc == return_gate)) [
  | inl gate ↦ none_is (rw gate at is)
  | inr other ↦
      let done = fetched owned s b (word_loaded b s.pc) n (rw other at is) in
      (rw other done.0, λ a. rw other (done.1 a))
]

-- WHAT OS_HEAP WRITES

-- a word that a heap spells lies in the heap
spelled_inside : (b : Bytes) (h : HeapList) (w : ℕ) → IsHeapIn b h.start h.end h.items → w % 4 ≡ 0 → is_heap_word h.start h.items w ≡ true
    → (h.start ≤ w) × (w + 4 ≤ h.start + h.end)
spelled_inside b h w is whole word =
    let fits = is.inside in
    let aligned = is.aligned in
    elim (cases_Bool (in_range h.start 16 w)) [
      | inl first ↦
          let low : h.start ≤ w = grind (arith, nat_tests, first) in
          let high : w < h.start + 16 = grind (arith, nat_tests, first) in
          (low, omega (arith, high, fits, whole, aligned))
      | inr behind ↦
          let inner = head_inside (h.start + 16) h.items w is.totals (rw behind at word) in
          let low = inner.0 in
          let high = inner.1 in
          (omega (arith, low), omega (arith, high, fits))
    ]

in_heap : (k' : KeptStore) (start a : ℕ) → IsSound k'.store → IsHeadByte k'.store start a → IsInHeap k' start a
unfolding limits_in
in_heap k' start a sound byte =
    let here : byte.list.start ≡ start = found_start start k'.store.heaps byte.list byte.found in
    let is : IsHeapIn k'.store.bytes byte.list.start byte.list.end byte.list.items =
    found_heap k'.store.bytes start k'.store.heaps byte.list sound.heaps byte.found in
    let inside = spelled_inside k'.store.bytes byte.list (word_start a) is (omega arith) byte.word in
    let low = inside.0 in
    let high = inside.1 in
    record {
      limits = limits_of_heap byte.list;
      there = ap (option_map limits_of_heap) byte.found;
      low = omega (arith, low, here);
      high = omega (arith, high, here);
    }

-- each reason but that which moves blocks
heads_alone : (why : HeapReason) (s t : Store) (start block size new a : ℕ) → moves_no_block (Some why) ≡ true
    → IsWrittenFor why s t start block size new a → IsHeadByte t start a
heads_alone reason.Initialise s t start block size new a heads is = is
heads_alone reason.Describe s t start block size new a heads is = absurd is
heads_alone reason.Get s t start block size new a heads is = is
heads_alone reason.Free s t start block size new a heads is = is
heads_alone reason.Resize s t start block size new a heads is = absurd (false≢true heads)
heads_alone reason.ChangeSize s t start block size new a heads is = is
heads_alone reason.BlockSize s t start block size new a heads is = absurd is

-- an error's byte, where no frame came or went
error_shown : (t : MachineState) (kept a : ℕ) → (length t.tables.frames == kept) ≡ true → IsErrorByte t a
    → is_shown_elsewhere (has_error kept t) (word_start a) ≡ true
error_shown t kept a frames is =
    let few = short_name is.error in
    let more = length-append (error_name is.error) (0 ∷ []) in
    let low : error_block_start ≤ a = grind (arith, nat_tests, is.byte) in
    let high : a < error_block_start + (length (error_name is.error) + 5) = grind (arith, nat_tests, is.byte) in
    let block : in_range error_block_start 256 (word_start a) ≡ true = grind (arith, nat_tests, low, high, few, more) in
    rw (is.refused, frames, block) refl

pub state_is : (p : GuestState) → IsGuest p → IsState (state_of p)
state_is p is = record { parts = p; is = refl; machine = is }

state_sound : (s : MachineState) → IsState s → IsSound s.store
state_sound s is = subst (λ (m : MachineState). IsSound m.store) is.is is.machine.well_formed.areas.ground.sound

heap_named : (r0 : ℕ) (o : Option SwiName) → named_call_stays r0 o ≡ true → (o ≡ Some swi.Heap) × (moves_no_block (heap_reason r0) ≡ true)
heap_named r0 None is = absurd (false≢true is)
heap_named r0 (Some swi.Heap) is = (refl, is)
heap_named r0 (Some swi.WriteC) is = absurd (false≢true is)
heap_named r0 (Some swi.WriteS) is = absurd (false≢true is)
heap_named r0 (Some swi.Write0) is = absurd (false≢true is)
heap_named r0 (Some swi.NewLine) is = absurd (false≢true is)
heap_named r0 (Some swi.Exit) is = absurd (false≢true is)
heap_named r0 (Some swi.EnterOs) is = absurd (false≢true is)
heap_named r0 (Some swi.Module) is = absurd (false≢true is)
heap_named r0 (Some swi.ChangeDynamicArea) is = absurd (false≢true is)
heap_named r0 (Some swi.GenerateError) is = absurd (false≢true is)
heap_named r0 (Some swi.ReadDynamicArea) is = absurd (false≢true is)
heap_named r0 (Some swi.DynamicArea) is = absurd (false≢true is)
heap_named r0 (Some swi.WriteI) is = absurd (false≢true is)
heap_named r0 (Some swi.FlexInit) is = absurd (false≢true is)
heap_named r0 (Some swi.FlexAlloc) is = absurd (false≢true is)
heap_named r0 (Some swi.FlexFree) is = absurd (false≢true is)
heap_named r0 (Some swi.FlexSize) is = absurd (false≢true is)
heap_named r0 (Some swi.FlexExtend) is = absurd (false≢true is)
heap_named r0 (Some swi.FlexMidExtend) is = absurd (false≢true is)

module _ (stays : OtherBytesStay) (images : List Entry) (s : MachineState) (state : IsState s) (after : IsState (machine_step images s).now) where
  abbrev now : MachineState
  now = (machine_step images s).now

  byte_of_call : (n kept a : ℕ) → IsTaken (owned_in s.store) s.cpu s.store.bytes n → swi_of (without_x n) ≡ Some swi.Heap
      → moves_no_block (heap_reason (register_of s.cpu 0)) ≡ true → (length now.tables.frames == kept) ≡ true → IsSound now.store
      → MayDiffer (has_error kept now) (kept_of s) (kept_of now) (register_of s.cpu 1) a
  byte_of_call n kept a turned name heads frames sound = elim (stays images s Step a state after) [
    | inl same ↦ inl same
    | inr may ↦ elim may [
      | inl stored ↦ absurd (false≢true (sym (turned.1 a) ∙ stored.0))
      | inr other ↦ elim other [
        | inl gate ↦ absurd (false≢true (subst (λ (r : Result (State × Bytes) StepEnd). is_at_gate r ≡ true) turned.0 gate.0))
        | inr call ↦ elim call.1 [
          | inl error ↦ inr (inl (error_shown now kept a frames error))
          | inr written ↦
              let made : IsOfCall images s ((s.cpu.pc + 4) % 2 ^ 26) (Some swi.Heap) now a =
              subst (λ (o : Option SwiName). IsOfCall images s ((s.cpu.pc + 4) % 2 ^ 26) o now a) (ap swi_of_turn turned.0 ∙ name) written in
              inr (inr (in_heap (kept_of now) (register_of s.cpu 1) a sound (heads_alone made.why s.store now.store (register_of s.cpu 1)
              (register_of s.cpu 2) (register_of s.cpu 3) (register_of now.cpu 2) a
              (subst (λ (o : Option HeapReason). moves_no_block o ≡ true) made.reason heads) made.byte)))
        ]
      ]
    ]
  ]

  abbrev Inside : Taking → Type 0
  Inside t = (let before = store_before t (register_of s.cpu 0) (kept_of s) in
      AreListedInside (has_error (length s.tables.frames) now) before (kept_of now)
      (pages_kept (is_heap_call (register_of s.cpu 0) t && (length now.tables.frames == length s.tables.frames)) (register_of s.cpu 1) before (kept_of now)))

  by_name : (n : ℕ) → swi_of_cause (cause_of s.cpu s.store.bytes) ≡ Some n → (heaps : Bool)
      → (named_call_stays (register_of s.cpu 0) (swi_of (without_x n)) && (length now.tables.frames == length s.tables.frames)) ≡ heaps
      → AreListedInside (has_error (length s.tables.frames) now) (Some (kept_of s)) (kept_of now)
      (pages_kept heaps (register_of s.cpu 1) (Some (kept_of s)) (kept_of now))
  by_name n is false other = all_inside (has_error (length s.tables.frames) now) (Some (kept_of s)) (kept_of now) all_pages refl
  by_name n is true heaps =
      let parts = and_parts (named_call_stays (register_of s.cpu 0) (swi_of (without_x n))) (length now.tables.frames == length s.tables.frames) heaps in
      let named = heap_named (register_of s.cpu 0) (swi_of (without_x n)) parts.0 in
      inside_by_bytes (has_error (length s.tables.frames) now) (kept_of s) (kept_of now) (register_of s.cpu 1)
      (λ a. byte_of_call n (length s.tables.frames) a (taken (owned_in s.store) s.cpu s.store.bytes n is) named.0 named.1 parts.1 (state_sound now after))

  by_swi : (o : Option ℕ) → swi_of_cause (cause_of s.cpu s.store.bytes) ≡ o → Inside (taking_swi o)
  by_swi None is = tt
  by_swi (Some n) is = elim (cases_Bool (call_leaves (register_of s.cpu 0) (without_x n))) [
    | inl leaves ↦ rw leaves tt
    | inr writes ↦ rw writes (by_name n is _ refl)
  ]

  by_cause : (c : Cause) → cause_of s.cpu s.store.bytes ≡ c → Inside (taking_of c)
  by_cause Gate is = all_inside (has_error (length s.tables.frames) now) (Some (kept_of s)) (kept_of now) all_pages refl
  by_cause Unmapped is = tt
  by_cause (Skipped w) is = tt
  by_cause (Word w) is = by_swi (swi_of_cause (Word w)) (ap swi_of_cause is)

  pub listed_inside : (label : Option (List ℕ)) → ListsInside (known_of label s) now
  listed_inside label = by_cause (cause_of s.cpu s.store.bytes) refl
