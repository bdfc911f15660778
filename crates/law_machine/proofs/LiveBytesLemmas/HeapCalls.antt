-- What a step or a call from outside writes that calls OS_Heap: nothing, an error's block, or what
-- the call that is done writes.
use Rattle.profile.specs.MemoryMap.{system_start}
use Rattle.std.proofs.Common.{ℕ, ◌≡◌, ◌∙◌, ◌⊎◌, Bool, true, false, List, Option, Some, None, Result, Ok, Err, refl, sym, ap, subst, inl, inr, if◌then◌else◌}
use Rattle.profile.specs.Reasons.{heap_reason}
use Rattle.profile.specs.SwiNames.{swi_of}
use Rattle.profile.specs.ErrorNumber.{ErrorNumber}
use Rattle.profile.specs.ErrorNumber.TheVariants.{HeapBadReason}
use Rattle.profile.specs.declared.reason.HeapReason.{HeapReason}
use Rattle.profile.specs.declared.swi.SwiName.{SwiName}
use Rattle.profile.specs.declared.swi.SwiName.TheVariants as swi
use Rattle.address_map.specs.Bytes.{in_range}
use Rattle.arm_core.specs.State.{State, register_of}
use Rattle.profile.specs.images.Entries.{Entry}
use Rattle.os_heap.specs.Store.{IsSound, Store}
use Rattle.law_machine.specs.heap_calls.Turns.{call_on}
use Rattle.swi_dispatch_guest.specs.Refusal.{Refusal}
use Rattle.swi_dispatch_guest.specs.Refusal.TheVariants as refusal
use Rattle.swi_dispatch_guest.specs.Heaps.{heap_called, heap_called_for}
use Rattle.swi_dispatch_guest.specs.declared.halt.Halt.TheVariants as halt
use Rattle.swi_dispatch_guest.specs.Answers.{went_on}
use Rattle.swi_dispatch_guest.specs.Calls.{call_answer, on_store}
use Rattle.swi_dispatch_guest.specs.MachineState.{MachineState}
use Rattle.swi_dispatch_guest.specs.Returns.{outcome_of_halt}
use Rattle.swi_dispatch_guest.specs.Step.{outcome_of_call, called_by, outcome_of_answer, is_exit}
use Rattle.law_machine.proofs.HeapAloneLemmas.HeapAnswers.{Agree, heap_agrees, overflow_back, two_back}
use Rattle.law_machine.proofs.HeapAloneLemmas.States.{HasStore, sound_store}
use Rattle.law_machine.proofs.LiveBytesLemmas.HeapWrites.{Writes, call_writes}
use Rattle.law_machine.proofs.LiveBytesLemmas.Rows.{error_off}
use Rattle.law_machine.specs.live_bytes.HeapWrites.{IsWrittenByCall, IsWrittenFor}

module _ (s : MachineState) (has : HasStore s) (a : ℕ) (off : in_range system_start 0x3000 a ≡ false) where
  abbrev pub LeavesByte : MachineState → Type 0
  LeavesByte t = IsSound t.store → (t.store.bytes.at a ≡ s.store.bytes.at a) ⊎ IsWrittenByCall s.cpu s.store t a

  refused_leaves : (x : Bool) (next : ℕ) (e : Refusal) → LeavesByte (outcome_of_answer s x (went_on s next (Err e))).now
  refused_leaves true next e = λ sound. inl (error_off s e a off)
  refused_leaves false next e = λ sound. inl refl

  -- a call that is done: what it answers in R2, and that V shows so
  done_leaves : (why : HeapReason) (next : ℕ) (q : State × Store) (r : Store × (ℕ × ℕ)) → heap_reason (register_of s.cpu 0) ≡ Some why
      → (q.1 ≡ r.0) × ((register_of q.0 2 ≡ r.1.0) × (register_of q.0 3 ≡ r.1.1))
      → ((r.0.bytes.at a ≡ s.store.bytes.at a) ⊎ IsWrittenFor why s.store r.0 (register_of s.cpu 1) (register_of s.cpu 2) (register_of s.cpu 3) r.1.0 a)
      → (let t : MachineState = (outcome_of_answer s true (went_on s next (on_store s (Ok q)))).now in
      (t.store.bytes.at a ≡ s.store.bytes.at a) ⊎ IsWrittenByCall s.cpu s.store t a)
  done_leaves why next q r reason agree (inl same) = inl (ap (λ (t : Store). t.bytes.at a) agree.0 ∙ same)
  done_leaves why next q r reason agree (inr byte) = inr (record {
    done = overflow_back s.cpu.psr q.0 false next;
    why = why;
    reason = reason;
    byte = subst (λ (n : ℕ). IsWrittenFor why s.store q.1 (register_of s.cpu 1) (register_of s.cpu 2) (register_of s.cpu 3) n a)
        (sym (two_back s.cpu.psr q.0 false next ∙ agree.1.0))
        (subst (λ (t : Store). IsWrittenFor why s.store t (register_of s.cpu 1) (register_of s.cpu 2) (register_of s.cpu 3) r.1.0 a) (sym agree.0) byte);
  })

  by_answer : (why : HeapReason) (x : Bool) (next : ℕ) (q : Result (State × Store) Refusal) (r : Result (Store × (ℕ × ℕ)) ErrorNumber)
      → heap_reason (register_of s.cpu 0) ≡ Some why → Agree q r
      → Writes why s.store (register_of s.cpu 1) (register_of s.cpu 2) (register_of s.cpu 3) a r → LeavesByte (outcome_of_answer s x (went_on s next (on_store s q))).now
  by_answer why x next (Ok q) (Ok r) reason agree writes = λ sound. done_leaves why next q r reason agree (writes (subst IsSound agree.0 sound))
  by_answer why x next (Err e) (Err number) reason agree writes = refused_leaves x next e
  by_answer why x next (Ok q) (Err number) reason agree writes = absurd agree
  by_answer why x next (Err e) (Ok r) reason agree writes = absurd agree

  by_reason : (why : Option HeapReason) (x : Bool) (next : ℕ) → heap_reason (register_of s.cpu 0) ≡ why
      → LeavesByte (outcome_of_answer s x (went_on s next (on_store s (heap_called_for s.cpu s.store why)))).now
  by_reason None x next reason = refused_leaves x next (refusal.System HeapBadReason)
  by_reason (Some why) x next reason =
      by_answer why x next (heap_called_for s.cpu s.store (Some why)) (call_on s.store (register_of s.cpu 1) why (register_of s.cpu 2) (register_of s.cpu 3)) reason
      (heap_agrees s.cpu has.size s.store why)
      (call_writes s.store (register_of s.cpu 1) (register_of s.cpu 2) (register_of s.cpu 3) a (sound_store s has) why)

  answer_leaves : (x : Bool) (next number : ℕ) → LeavesByte (outcome_of_answer s x (call_answer s next number (Some swi.Heap))).now
  unfolding call_answer heap_called
  answer_leaves x next number = by_reason (heap_reason (register_of s.cpu 0)) x next refl

  pub heap_call_leaves_byte : (images : List Entry) (x : Bool) (next number : ℕ) → swi_of number ≡ Some swi.Heap → LeavesByte (outcome_of_call images s x next number).now
  unfolding outcome_of_call
  heap_call_leaves_byte images x next number name =
      subst (λ (o : Option SwiName). LeavesByte (if is_exit o then outcome_of_halt s halt.Exit else called_by images s x next number o).now) (sym name)
      (answer_leaves x next number)
