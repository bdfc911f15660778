-- How calls end: what is written of an error's block, and what a call that is done leaves.
use Rattle.profile.specs.MemoryMap.{error_block_start}
use Rattle.std.proofs.Common.{ℕ, ◌≡◌, ◌+◌, ◌++◌, ◌∙◌, ◌⊎◌, Bool, true, false, List, [], ◌∷◌, length, Result, Ok, Err, refl, inl, inr, arith, length-append}
use Rattle.profile.specs.ErrorNames.{error_code, error_name}
use Rattle.address_map.proofs.Stores.{in_range-cases}
use Rattle.address_map.specs.Bytes.{with_word_at}
use Rattle.arm_core.specs.State.{with_register}
use Rattle.arm_core.specs.declared.psr.Psr.{Psr}
use Rattle.flex_store.proofs.Holding.{bytes_beside, word_beside}
use Rattle.flex_store.specs.declared.flex.Flex.{Flex}
use Rattle.os_heap.specs.Store.{Store}
use Rattle.swi_dispatch_guest.specs.Refusal.{Refusal}
use Rattle.swi_dispatch_guest.specs.Refusal.TheVariants as refusal
use Rattle.swi_dispatch_guest.proofs.ErrorNumbers.{block_read, zero_kept, zero_set}
use Rattle.swi_dispatch_guest.specs.Answers.{refusal_answer, went_on}
use Rattle.swi_dispatch_guest.specs.Errors.{with_error}
use Rattle.swi_dispatch_guest.specs.MachineState.{MachineState}
use Rattle.swi_dispatch_guest.specs.Returns.{gone_back}
use Rattle.swi_dispatch_guest.specs.Step.{outcome_of_answer}
use Rattle.law_machine.proofs.HeapAloneLemmas.HeapAnswers.{overflow_back}
use Rattle.law_machine.proofs.HeapAloneLemmas.States.{HasStore, mapped_block}
use Rattle.law_machine.specs.other_bytes.MoveWrites.{IsDone, IsErrorByte}

pub error_byte : (u : MachineState) (caller : Psr) (next a : ℕ) (e : Refusal) → u.store.bytes.mapped error_block_start ≡ true → length u.cpu.file ≡ 26
    → ((gone_back caller (with_error u e) true next).store.bytes.at a ≡ u.store.bytes.at a) ⊎ IsErrorByte (gone_back caller (with_error u e) true next) a
error_byte u caller next a refusal.Own mapped size = inl refl
error_byte u caller next a (refusal.System e) mapped size =
    let text : List ℕ = error_name e ++ 0 ∷ [] in
    let long : length text ≡ length (error_name e) + 1 = length-append (error_name e) (0 ∷ []) in
    elim (in_range-cases error_block_start (length (error_name e) + 5) a) [
      | inl r ↦ inr (record {
        refused = overflow_back caller (with_register u.cpu 0 error_block_start) true next;
        pointed = zero_kept caller (with_register u.cpu 0 error_block_start) true next ∙ zero_set u.cpu error_block_start size;
        error = e;
        number = block_read u caller next e mapped size;
        byte = r.0;
      })
      | inr r ↦ inl (bytes_beside (with_word_at u.store.bytes.at error_block_start (error_code e)) 0x01C02104 text a
          (elim r.1 [ inl low ↦ inl (omega (arith, low)) | inr high ↦ inr (omega (arith, high, long)) ])
          ∙ word_beside u.store.bytes.at error_block_start (error_code e) a (elim r.1 [ inl low ↦ inl low | inr high ↦ inr (omega (arith, high)) ]))
    ]

-- a row that writes nothing
abbrev pub Nothing : Store → Flex → Type 0
Nothing t f = ⊥

-- A byte stays over a call, or it is of the call's error, or the call's row writes it.
module _ (s : MachineState) (a : ℕ) (R : Store → Flex → Type 0) where
  abbrev pub Ends : MachineState → Type 0
  Ends t = (t.store.bytes.at a ≡ s.store.bytes.at a) ⊎ (IsErrorByte t a ⊎ R t.store t.tables.flex)

  -- the same of a call whose row is written only where it was done
  abbrev pub EndsDone : MachineState → Type 0
  EndsDone t = (t.store.bytes.at a ≡ s.store.bytes.at a) ⊎ (IsErrorByte t a ⊎ (IsDone t × R t.store t.tables.flex))

  -- what a call leaves that is done
  abbrev pub Went : Result MachineState Refusal → Type 0
  Went (Ok t) = (t.store.bytes.at a ≡ s.store.bytes.at a) ⊎ R t.store t.tables.flex
  Went (Err e) = Unit {0}

module _ (s : MachineState) (has : HasStore s) (a : ℕ) (R : Store → Flex → Type 0) where
  pub refused : (x : Bool) (next : ℕ) (e : Refusal) → Ends s a R (outcome_of_answer s x (refusal_answer s next e)).now
  refused false next e = inl refl
  refused true next e = elim (error_byte s s.cpu.psr next a e (mapped_block s has) has.size) [
    | inl kept ↦ inl kept
    | inr own ↦ inr (inl own)
  ]

  refused_done : (x : Bool) (next : ℕ) (e : Refusal) → EndsDone s a R (outcome_of_answer s x (refusal_answer s next e)).now
  refused_done false next e = inl refl
  refused_done true next e = elim (error_byte s s.cpu.psr next a e (mapped_block s has) has.size) [
    | inl kept ↦ inl kept
    | inr own ↦ inr (inl own)
  ]

  pub went : (x : Bool) (next : ℕ) (r : Result MachineState Refusal) → Went s a R r → EndsDone s a R (outcome_of_answer s x (went_on s next r)).now
  went x next (Ok t) (inl same) = inl same
  went x next (Ok t) (inr row) = inr (inr (overflow_back s.cpu.psr t.cpu false next, row))
  went x next (Err e) done = refused_done x next e
