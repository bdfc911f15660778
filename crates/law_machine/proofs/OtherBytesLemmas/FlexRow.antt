-- What a flex call writes that a machine makes.
use Rattle.std.proofs.Common.{ℕ, ◌≡◌, ◌⊎◌, Bool, true, Option, Some, Result, Ok, Err, refl, ap, subst, inl, inr}
use Rattle.profile.specs.Outcome.{bind}
use Rattle.profile.specs.ErrorNumber.{ErrorNumber}
use Rattle.profile.specs.declared.swi.SwiName.TheVariants as swi
use Rattle.arm_core.specs.State.{register_of}
use Rattle.os_heap.specs.Store.{Store}
use Rattle.swi_dispatch_guest.specs.Ground.{flex_of, flex_state, store_flexed, with_flex_record}
use Rattle.flex_store.specs.Blocks.{FlexStore, bytes_taken_by_all}
use Rattle.flex_store.specs.Calls.{FlexState, flex_after_alloc, flex_after_extend, flex_after_init, flex_after_release, mid_extended}
use Rattle.flex_store.specs.Runs.{Alloc, Extend, FlexCall, MidExtend, Release}
use Rattle.flex_store.specs.declared.flex.Flex.{Flex}
use Rattle.law_machine.specs.sliding_stores.Meaning.{Stores, store_in}
use Rattle.law_machine.specs.sliding_stores.Turning.{Init, flex_call_answer, stores_after_flex, stores_after_step}
use Rattle.swi_dispatch_guest.specs.Refusals.{or_error}
use Rattle.swi_dispatch_guest.specs.SwiDispatchFlexCalls.{fit_shown, flex_called, memory_after_flex as memory_left}
use Rattle.swi_dispatch_guest.specs.Calls.{machine_flex, on_flex}
use Rattle.swi_dispatch_guest.specs.MachineState.{MachineState}
use Rattle.law_machine.proofs.HeapAloneLemmas.States.{HasStore, stores_in}
use Rattle.law_machine.proofs.LiveBytesLemmas.FlexBytes.{flex_calls_change}
use Rattle.law_machine.specs.live_bytes.FlexLaws.{IsAnchorByte}
use Rattle.law_machine.proofs.OtherBytesLemmas.Ending.{Went}
use Rattle.law_machine.proofs.OtherBytesLemmas.FlexCalls.{flex_calls_keep_others}
use Rattle.law_machine.specs.other_bytes.FlexWrites.{IsLaidOut}
use Rattle.law_machine.specs.other_bytes.MoveWrites.{IsOfFlexCall, IsOfFlexText}

module _ (s : MachineState) (has : HasStore s) (a : ℕ) where
  abbrev pub Row : FlexCall → Store → Flex → Type 0
  Row call t f = IsOfFlexCall s t f call a

  flex_text : (v : FlexState) (call : FlexCall) → IsLaidOut (flex_state s.store s.tables.flex) v call a → IsOfFlexText s (flex_of v.flex) call a
  flex_text v call text = record {
    old = text.old;
    found = text.found;
    new = record { start = text.new.start; end = text.new.end; used = bytes_taken_by_all text.new.blocks };
    left = ap (λ (o : Option FlexStore). (flex_of o).extent) text.left;
    byte = text.byte;
  }

  row_of : (v : FlexState) (call : FlexCall)
      → (v.bytes.at a ≡ s.store.bytes.at a) ⊎ (IsAnchorByte s.store (store_flexed s.store v) a ⊎ IsLaidOut (flex_state s.store s.tables.flex) v call a)
      → (v.bytes.at a ≡ s.store.bytes.at a) ⊎ Row call (store_flexed s.store v) (flex_of v.flex)
  row_of v call (inl same) = inl same
  row_of v call (inr (inl anchor)) = inr (inl anchor)
  row_of v call (inr (inr text)) = inr (inr (flex_text v call text))

  fit_went : (call : FlexCall) (r : Result (FlexState × Bool) ErrorNumber) → flex_call_answer s.store s.tables.flex call ≡ r
      → Went s a (Row call) (on_flex s (fit_shown s.cpu (memory_left s.store r)))
  fit_went call (Ok q) is = row_of q.0 call (flex_calls_keep_others (stores_in s has.pending) call q.0 q.1 a has.stores is)
  fit_went call (Err f) is = tt

  release_went : (anchor : ℕ) (r : Result (FlexState × Unit {0}) ErrorNumber) → flex_after_release (flex_state s.store s.tables.flex) anchor ≡ r
      → Went s a (Row (Release anchor)) (on_flex s (bind (or_error (memory_left s.store r)) (λ q. Ok (s.cpu, q.0))))
  release_went anchor (Ok q) is =
      let done : flex_call_answer s.store s.tables.flex (Release anchor) ≡ Ok (q.0, true) =
      ap (λ (r : Result (FlexState × Unit {0}) ErrorNumber). bind r (λ p. Ok (p.0, true))) is in
      row_of q.0 (Release anchor) (flex_calls_keep_others (stores_in s has.pending) (Release anchor) q.0 true a has.stores done)
  release_went anchor (Err f) is = tt

  init_went : (start end : ℕ) (r : Result (FlexState × Unit {0}) ErrorNumber) (R : Store → Flex → Type 0)
      → stores_after_step (Init start end) (stores_in s has.pending)
      ≡ stores_after_flex (stores_in s has.pending) (with_flex_record s.store start end) (bind r (λ q. Ok (q.0, true)))
      → Went s a R (on_flex s (bind (or_error (memory_left (with_flex_record s.store start end) r)) (λ q. Ok (s.cpu, q.0))))
  init_went start end (Ok q) R same =
      inl (subst (λ (y : Stores). (store_in y).bytes.at a ≡ s.store.bytes.at a) same ((flex_calls_change (stores_in s has.pending) a has.stores).init start end))
  init_went start end (Err f) R same = tt

  pub init_made : (R : Store → Flex → Type 0) → Went s a R (on_flex s (flex_called s.cpu (machine_flex s) (Some swi.FlexInit)))
  unfolding flex_called stores_after_step
  init_made R =
      init_went (register_of s.cpu 0) (register_of s.cpu 1)
      (flex_after_init s.store (flex_state s.store s.tables.flex) (register_of s.cpu 0) (register_of s.cpu 1)) R refl

  pub alloc_made : Went s a (Row (Alloc (register_of s.cpu 0) (register_of s.cpu 1))) (on_flex s (flex_called s.cpu (machine_flex s) (Some swi.FlexAlloc)))
  unfolding flex_called
  alloc_made =
      fit_went (Alloc (register_of s.cpu 0) (register_of s.cpu 1))
      (flex_after_alloc s.store (flex_state s.store s.tables.flex) (register_of s.cpu 0) (register_of s.cpu 1)) refl

  pub release_made : Went s a (Row (Release (register_of s.cpu 0))) (on_flex s (flex_called s.cpu (machine_flex s) (Some swi.FlexFree)))
  unfolding flex_called
  release_made = release_went (register_of s.cpu 0) (flex_after_release (flex_state s.store s.tables.flex) (register_of s.cpu 0)) refl

  pub extend_made : Went s a (Row (Extend (register_of s.cpu 0) (register_of s.cpu 1))) (on_flex s (flex_called s.cpu (machine_flex s) (Some swi.FlexExtend)))
  unfolding flex_called
  extend_made =
      fit_went (Extend (register_of s.cpu 0) (register_of s.cpu 1))
      (flex_after_extend (flex_state s.store s.tables.flex) (register_of s.cpu 0) (register_of s.cpu 1)) refl

  pub mid_made : Went s a (Row (MidExtend (register_of s.cpu 0) (register_of s.cpu 1) (register_of s.cpu 2)))
      (on_flex s (flex_called s.cpu (machine_flex s) (Some swi.FlexMidExtend)))
  unfolding flex_called
  mid_made =
      fit_went (MidExtend (register_of s.cpu 0) (register_of s.cpu 1) (register_of s.cpu 2))
      (mid_extended (flex_state s.store s.tables.flex) (register_of s.cpu 0) (register_of s.cpu 1) (register_of s.cpu 2)) refl
