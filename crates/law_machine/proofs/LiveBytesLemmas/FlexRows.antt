-- What a flex call leaves of a byte outside the flex store and the system pages: what it was, or
-- the byte is an anchor's.
use Rattle.profile.specs.MemoryMap.{system_start}
use Rattle.std.proofs.Common.{ℕ, ◌≡◌, ◌⊎◌, Bool, true, false, Option, Some, Result, Ok, Err, refl, subst, inl, inr}
use Rattle.std.proofs.lemmas.Bool.{false≢true}
use Rattle.profile.specs.Outcome.{bind}
use Rattle.profile.specs.ErrorNumber.{ErrorNumber}
use Rattle.profile.specs.declared.swi.SwiName.{SwiName}
use Rattle.profile.specs.declared.swi.SwiName.TheVariants as swi
use Rattle.address_map.specs.Bytes.{in_range}
use Rattle.arm_core.specs.State.{register_of}
use Rattle.os_heap.specs.Store.{Store, is_in_flex_store}
use Rattle.flex_store.specs.Calls.{FlexState, flex_after_alloc, flex_after_init, flex_after_extend, mid_extended, flex_after_release}
use Rattle.flex_store.specs.Runs.{Alloc, Extend, FlexCall, MidExtend, Release}
use Rattle.swi_dispatch_guest.specs.Ground.{flex_state, with_flex_record}
use Rattle.law_machine.specs.sliding_stores.Meaning.{Stores, store_in}
use Rattle.law_machine.specs.sliding_stores.Turning.{Call, Init, stores_after_flex, stores_after_step}
use Rattle.swi_dispatch_guest.specs.Refusals.{or_error}
use Rattle.swi_dispatch_guest.specs.Refusal.{Refusal}
use Rattle.swi_dispatch_guest.specs.SwiDispatchFlexCalls.{fit_shown, flex_called, memory_after_flex as memory_left}
use Rattle.swi_dispatch_guest.specs.Answers.{went_on}
use Rattle.swi_dispatch_guest.specs.Calls.{call_answer, machine_flex, on_flex}
use Rattle.swi_dispatch_guest.specs.MachineState.{MachineState}
use Rattle.swi_dispatch_guest.specs.Step.{outcome_of_answer}
use Rattle.law_machine.proofs.HeapAloneLemmas.Rows.{is_flex_call}
use Rattle.law_machine.proofs.HeapAloneLemmas.States.{HasStore, stores_in}
use Rattle.law_machine.proofs.LiveBytesLemmas.AreaRows.{HasWent}
use Rattle.law_machine.proofs.LiveBytesLemmas.FlexBytes.{flex_calls_change}
use Rattle.law_machine.proofs.LiveBytesLemmas.Rows.{error_off}
use Rattle.law_machine.specs.live_bytes.Changes.{is_flex_name}
use Rattle.law_machine.specs.live_bytes.FlexLaws.{IsAnchorByte}

-- init writes nothing outside the system pages
module _ (s : MachineState) (has : HasStore s) (a : ℕ) (off : in_range system_start 0x3000 a ≡ false) where
  abbrev Same : Store → Type 0
  Same t = t.bytes.at a ≡ s.store.bytes.at a

  init_went : (start end : ℕ) (r : Result (FlexState × Unit {0}) ErrorNumber)
      → stores_after_step (Init start end) (stores_in s has.pending) ≡ stores_after_flex (stores_in s has.pending) (with_flex_record s.store start end) (bind r (λ q. Ok (q.0, true)))
      → HasWent Same (on_flex s (bind (or_error (memory_left (with_flex_record s.store start end) r)) (λ q. Ok (s.cpu, q.0))))
  init_went start end (Ok q) same =
      subst (λ (y : Stores). Same (store_in y)) same ((flex_calls_change (stores_in s has.pending) a has.stores).init start end)
  init_went start end (Err f) same = tt

  init_made : HasWent Same (on_flex s (flex_called s.cpu (machine_flex s) (Some swi.FlexInit)))
  unfolding flex_called stores_after_step
  init_made =
      init_went (register_of s.cpu 0) (register_of s.cpu 1)
      (flex_after_init s.store (flex_state s.store s.tables.flex) (register_of s.cpu 0) (register_of s.cpu 1)) refl

  init_ended : (x : Bool) (next : ℕ) (r : Result MachineState Refusal) → HasWent Same r → Same (outcome_of_answer s x (went_on s next r)).now.store
  init_ended x next (Ok t) went = went
  init_ended true next (Err e) went = error_off s e a off
  init_ended false next (Err e) went = refl

  pub init_byte : (x : Bool) (next number : ℕ) → Same (outcome_of_answer s x (call_answer s next number (Some swi.FlexInit))).now.store
  unfolding call_answer
  init_byte x next number = init_ended x next (on_flex s (flex_called s.cpu (machine_flex s) (Some swi.FlexInit))) init_made

module _ (s : MachineState) (has : HasStore s) (a : ℕ) (out : is_in_flex_store s.store.others a ≡ false) (off : in_range system_start 0x3000 a ≡ false) where
  -- the byte stays, unless it is an anchor's and the call one that may write anchors
  abbrev pub MayAnchor : Option SwiName → Store → Type 0
  MayAnchor name t = (t.bytes.at a ≡ s.store.bytes.at a) ⊎ ((is_flex_name name ≡ true) × IsAnchorByte s.store t a)

  abbrev FlexWent : Option SwiName → Result MachineState Refusal → Type 0
  FlexWent name (Ok t) = MayAnchor name t.store
  FlexWent name (Err e) = Unit {0}

  may_by : (name : Option SwiName) (t : Store) → is_flex_name name ≡ true → (t.bytes.at a ≡ s.store.bytes.at a) ⊎ IsAnchorByte s.store t a → MayAnchor name t
  may_by name t is (inl same) = inl same
  may_by name t is (inr anchor) = inr (is, anchor)

  call_may : (name : Option SwiName) (call : FlexCall) → is_flex_name name ≡ true → MayAnchor name (store_in (stores_after_step (Call call) (stores_in s has.pending)))
  call_may name call is =
      may_by name (store_in (stores_after_step (Call call) (stores_in s has.pending))) is
      ((flex_calls_change (stores_in s has.pending) a has.stores).calls call out)

  fit_went : (name : Option SwiName) (call : FlexCall) (r : Result (FlexState × Bool) ErrorNumber) → is_flex_name name ≡ true
      → stores_after_step (Call call) (stores_in s has.pending) ≡ stores_after_flex (stores_in s has.pending) s.store r
      → FlexWent name (on_flex s (fit_shown s.cpu (memory_left s.store r)))
  fit_went name call (Ok q) is same = subst (λ (y : Stores). MayAnchor name (store_in y)) same (call_may name call is)
  fit_went name call (Err f) is same = tt

  release_went : (name : Option SwiName) (anchor : ℕ) (r : Result (FlexState × Unit {0}) ErrorNumber) → is_flex_name name ≡ true
      → stores_after_step (Call (Release anchor)) (stores_in s has.pending) ≡ stores_after_flex (stores_in s has.pending) s.store (bind r (λ q. Ok (q.0, true)))
      → FlexWent name (on_flex s (bind (or_error (memory_left s.store r)) (λ q. Ok (s.cpu, q.0))))
  release_went name anchor (Ok q) is same = subst (λ (y : Stores). MayAnchor name (store_in y)) same (call_may name (Release anchor) is)
  release_went name anchor (Err f) is same = tt

  flex_went : (name : Option SwiName) → is_flex_name name ≡ true → FlexWent name (on_flex s (flex_called s.cpu (machine_flex s) name))
  unfolding flex_called stores_after_step
  flex_went (Some swi.FlexAlloc) flex =
      fit_went (Some swi.FlexAlloc) (Alloc (register_of s.cpu 0) (register_of s.cpu 1))
      (flex_after_alloc s.store (flex_state s.store s.tables.flex) (register_of s.cpu 0) (register_of s.cpu 1)) refl refl
  flex_went (Some swi.FlexFree) flex =
      release_went (Some swi.FlexFree) (register_of s.cpu 0) (flex_after_release (flex_state s.store s.tables.flex) (register_of s.cpu 0)) refl refl
  flex_went (Some swi.FlexExtend) flex =
      fit_went (Some swi.FlexExtend) (Extend (register_of s.cpu 0) (register_of s.cpu 1))
      (flex_after_extend (flex_state s.store s.tables.flex) (register_of s.cpu 0) (register_of s.cpu 1)) refl refl
  flex_went (Some swi.FlexMidExtend) flex =
      fit_went (Some swi.FlexMidExtend) (MidExtend (register_of s.cpu 0) (register_of s.cpu 1) (register_of s.cpu 2))
      (mid_extended (flex_state s.store s.tables.flex) (register_of s.cpu 0) (register_of s.cpu 1) (register_of s.cpu 2)) refl refl
  flex_went other flex = absurd (false≢true flex)

  ended_may : (x : Bool) (next : ℕ) (name : Option SwiName) (r : Result MachineState Refusal) → FlexWent name r
      → MayAnchor name (outcome_of_answer s x (went_on s next r)).now.store
  ended_may x next name (Ok t) went = went
  ended_may true next name (Err e) went = inl (error_off s e a off)
  ended_may false next name (Err e) went = inl refl

  flex_may : (x : Bool) (next : ℕ) (name : Option SwiName) → is_flex_name name ≡ true
      → MayAnchor name (outcome_of_answer s x (went_on s next (on_flex s (flex_called s.cpu (machine_flex s) name)))).now.store
  flex_may x next name is = ended_may x next name (on_flex s (flex_called s.cpu (machine_flex s) name)) (flex_went name is)

  pub flex_byte : (x : Bool) (next number : ℕ) (name : Option SwiName) → is_flex_call name ≡ true
      → MayAnchor name (outcome_of_answer s x (call_answer s next number name)).now.store
  unfolding call_answer
  flex_byte x next number (Some swi.FlexInit) is = inl (init_byte s has a off x next number)
  flex_byte x next number (Some swi.FlexAlloc) is = flex_may x next (Some swi.FlexAlloc) refl
  flex_byte x next number (Some swi.FlexFree) is = flex_may x next (Some swi.FlexFree) refl
  flex_byte x next number (Some swi.FlexExtend) is = flex_may x next (Some swi.FlexExtend) refl
  flex_byte x next number (Some swi.FlexMidExtend) is = flex_may x next (Some swi.FlexMidExtend) refl
  flex_byte x next number other is = absurd (false≢true is)
