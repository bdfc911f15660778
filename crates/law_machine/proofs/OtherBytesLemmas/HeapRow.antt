-- What a call of OS_Heap writes that a machine makes.
use Rattle.std.proofs.Common.{ℕ, ◌≡◌, ◌∙◌, ◌⊎◌, Bool, true, false, Option, Some, None, Result, Ok, Err, refl, sym, ap, subst, inl, inr}
use Rattle.profile.specs.Reasons.{heap_reason}
use Rattle.profile.specs.ErrorNumber.{ErrorNumber}
use Rattle.profile.specs.ErrorNumber.TheVariants.{HeapBadReason}
use Rattle.profile.specs.declared.reason.HeapReason.{HeapReason}
use Rattle.profile.specs.declared.swi.SwiName.TheVariants as swi
use Rattle.arm_core.specs.State.{State, register_of}
use Rattle.os_heap.specs.Store.{IsSound, Store}
use Rattle.law_machine.specs.heap_calls.Turns.{call_on}
use Rattle.swi_dispatch_guest.specs.Refusal.{Refusal}
use Rattle.swi_dispatch_guest.specs.Refusal.TheVariants as refusal
use Rattle.swi_dispatch_guest.specs.Heaps.{heap_called, heap_called_for}
use Rattle.swi_dispatch_guest.specs.Answers.{went_on}
use Rattle.swi_dispatch_guest.specs.Calls.{call_answer, on_store}
use Rattle.swi_dispatch_guest.specs.MachineState.{MachineState}
use Rattle.swi_dispatch_guest.specs.Step.{outcome_of_answer}
use Rattle.law_machine.proofs.HeapAloneLemmas.HeapAnswers.{Agree, heap_agrees, overflow_back, two_back}
use Rattle.law_machine.proofs.HeapAloneLemmas.States.{HasStore, mapped_block, sound_store}
use Rattle.law_machine.proofs.LiveBytesLemmas.HeapWrites.{Writes, call_writes}
use Rattle.law_machine.specs.live_bytes.HeapWrites.{IsWrittenByCall, IsWrittenFor}
use Rattle.law_machine.proofs.OtherBytesLemmas.Ending.{error_byte}
use Rattle.law_machine.specs.other_bytes.MoveWrites.{IsErrorByte}

module _ (s : MachineState) (has : HasStore s) (a : ℕ) where
  abbrev pub HeapEnds : MachineState → Type 0
  HeapEnds t = IsSound t.store → (t.store.bytes.at a ≡ s.store.bytes.at a) ⊎ (IsErrorByte t a ⊎ IsWrittenByCall s.cpu s.store t a)

  refused_ends : (x : Bool) (next : ℕ) (e : Refusal) → HeapEnds (outcome_of_answer s x (went_on s next (Err e))).now
  refused_ends true next e = λ sound. elim (error_byte s s.cpu.psr next a e (mapped_block s has) has.size) [ inl kept ↦ inl kept | inr own ↦ inr (inl own) ]
  refused_ends false next e = λ sound. inl refl

  -- a call that is done: what it answers in R2, and that V shows so
  done_ends : (why : HeapReason) (next : ℕ) (q : State × Store) (r : Store × (ℕ × ℕ)) → heap_reason (register_of s.cpu 0) ≡ Some why
      → (q.1 ≡ r.0) × ((register_of q.0 2 ≡ r.1.0) × (register_of q.0 3 ≡ r.1.1))
      → ((r.0.bytes.at a ≡ s.store.bytes.at a) ⊎ IsWrittenFor why s.store r.0 (register_of s.cpu 1) (register_of s.cpu 2) (register_of s.cpu 3) r.1.0 a)
      → (let t : MachineState = (outcome_of_answer s true (went_on s next (on_store s (Ok q)))).now in
      (t.store.bytes.at a ≡ s.store.bytes.at a) ⊎ (IsErrorByte t a ⊎ IsWrittenByCall s.cpu s.store t a))
  done_ends why next q r reason agree (inl same) = inl (ap (λ (t : Store). t.bytes.at a) agree.0 ∙ same)
  done_ends why next q r reason agree (inr byte) = inr (inr (record {
    done = overflow_back s.cpu.psr q.0 false next;
    why = why;
    reason = reason;
    byte = subst (λ (n : ℕ). IsWrittenFor why s.store q.1 (register_of s.cpu 1) (register_of s.cpu 2) (register_of s.cpu 3) n a)
        (sym (two_back s.cpu.psr q.0 false next ∙ agree.1.0))
        (subst (λ (t : Store). IsWrittenFor why s.store t (register_of s.cpu 1) (register_of s.cpu 2) (register_of s.cpu 3) r.1.0 a) (sym agree.0) byte);
  }))

  by_answer : (why : HeapReason) (x : Bool) (next : ℕ) (q : Result (State × Store) Refusal) (r : Result (Store × (ℕ × ℕ)) ErrorNumber)
      → heap_reason (register_of s.cpu 0) ≡ Some why → Agree q r
      → Writes why s.store (register_of s.cpu 1) (register_of s.cpu 2) (register_of s.cpu 3) a r → HeapEnds (outcome_of_answer s x (went_on s next (on_store s q))).now
  by_answer why x next (Ok q) (Ok r) reason agree writes = λ sound. done_ends why next q r reason agree (writes (subst IsSound agree.0 sound))
  by_answer why x next (Err e) (Err number) reason agree writes = refused_ends x next e
  by_answer why x next (Ok q) (Err number) reason agree writes = absurd agree
  by_answer why x next (Err e) (Ok r) reason agree writes = absurd agree

  by_reason : (why : Option HeapReason) (x : Bool) (next : ℕ) → heap_reason (register_of s.cpu 0) ≡ why
      → HeapEnds (outcome_of_answer s x (went_on s next (on_store s (heap_called_for s.cpu s.store why)))).now
  by_reason None x next reason = refused_ends x next (refusal.System HeapBadReason)
  by_reason (Some why) x next reason =
      by_answer why x next (heap_called_for s.cpu s.store (Some why)) (call_on s.store (register_of s.cpu 1) why (register_of s.cpu 2) (register_of s.cpu 3)) reason
      (heap_agrees s.cpu has.size s.store why)
      (call_writes s.store (register_of s.cpu 1) (register_of s.cpu 2) (register_of s.cpu 3) a (sound_store s has) why)

  pub heap_ends : (x : Bool) (next number : ℕ) → HeapEnds (outcome_of_answer s x (call_answer s next number (Some swi.Heap))).now
  unfolding call_answer heap_called
  heap_ends x next number = by_reason (heap_reason (register_of s.cpu 0)) x next refl
