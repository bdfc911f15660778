-- The flex calls: the flex store is a range that a guest names once, and in it lie blocks without
-- gaps, each reached through an anchor, a word that holds the address of the block's bytes and lies
-- outside the store or in a block before its own (Acorn C manual, "flex"; that they are SWIs, their
-- numbers, registers and refusals are this project's own).
use Rattle.std.specs.Prelude.{ℕ, Bool, true, false, Option, Some, Result, Ok}
use Rattle.profile.specs.Outcome.{bind}
use Rattle.profile.specs.ErrorNumber.{ErrorNumber}
use Rattle.profile.specs.ErrorNumber.TheVariants.{SwiUnknown}
use Rattle.profile.specs.declared.swi.SwiName.{SwiName}
use Rattle.profile.specs.declared.swi.SwiName.TheVariants as swi
use Rattle.os_heap.specs.AddressMap.{AddressMap}
use Rattle.swi_dispatch_answers.specs.State.{State, register_of, with_register}
use Rattle.swi_dispatch_plans.specs.flex_frame.Ground.{flex_of, flex_state, store_flexed, with_flex_record}
use Rattle.flex_store.specs.Calls.{FlexState, flex_after_alloc, flex_after_init, flex_after_extend, mid_extended, flex_after_release, flex_block_size}
use Rattle.flex_store.specs.declared.flex.Flex.{Flex}
use Rattle.os_heap.specs.Store.{Store, store_of}
use Rattle.swi_dispatch_answers.specs.declared.refusal.Refusal.{Refusal}
use Rattle.swi_dispatch_answers.specs.Refusals.{or_error, system_error}

-- what these calls act on beside the core: memory with its records, and where the flex store is
pub record FlexMemory : Type 0 where
  pub store : Store
  pub flex : Flex

abbrev pub memory_of : AddressMap → Flex → FlexMemory
memory_of m f = record { store = store_of m; flex = f }

-- as the calls of `flex_store` have it, and after one of them, whose anchors and headers are marked
-- in its store
abbrev pub state_in : FlexMemory → FlexState
state_in s = flex_state s.store s.flex

abbrev pub memory_with_flex : Store → FlexState → FlexMemory
memory_with_flex store t = record { store = store_flexed store t; flex = flex_of t.flex }

-- what a call leaves, with what it answers
abbrev pub memory_after_flex : {A : Type 0} → Store → Result (FlexState × A) ErrorNumber →
    Result (FlexMemory × A) ErrorNumber
memory_after_flex store r = bind r (λ q. Ok (memory_with_flex store q.0, q.1))

-- Flex_Init: the store's range is from R0 up to R1.
abbrev pub flex_in_range : FlexMemory → ℕ → ℕ → Result (FlexMemory × Unit {0}) ErrorNumber
flex_in_range s start end = memory_after_flex (with_flex_record s.store start end)
    (flex_after_init s.store (state_in s) start end)

abbrev pub flex_made : State → FlexMemory → Result (State × FlexMemory) Refusal
flex_made cpu s = bind (or_error (flex_in_range s (register_of cpu 0) (register_of cpu 1)))
    (λ r. Ok (cpu, r.0))

-- In R0 a call says whether the store had room: 1, or 0 with nothing changed.
abbrev pub room_word_of : Bool → ℕ
room_word_of true = 1
room_word_of false = 0

abbrev pub fit_shown : State → Result (FlexMemory × Bool) ErrorNumber → Result (State × FlexMemory) Refusal
fit_shown cpu r = bind (or_error r) (λ q. Ok (with_register cpu 0 (room_word_of q.1), q.0))

-- Flex_Alloc: R0 has the anchor's address, R1 a size.
abbrev pub flex_allocated : State → FlexMemory → Result (State × FlexMemory) Refusal
flex_allocated cpu s =
    fit_shown cpu (memory_after_flex s.store (flex_after_alloc s.store (state_in s) (register_of cpu 0)
    (register_of cpu 1)))

-- Flex_Free: R0 has an anchor's address.
abbrev pub flex_released : State → FlexMemory → Result (State × FlexMemory) Refusal
flex_released cpu s = bind (or_error (memory_after_flex s.store
    (flex_after_release (state_in s) (register_of cpu 0)))) (λ r. Ok (cpu, r.0))

-- Flex_Size: R0 has an anchor's address, and the size of its block then.
abbrev pub flex_sized : State → FlexMemory → Result (State × FlexMemory) Refusal
flex_sized cpu s = bind (or_error (flex_block_size (state_in s) (register_of cpu 0)))
    (λ n. Ok (with_register cpu 0 n, s))

-- Flex_Extend: R0 has an anchor's address, R1 the new size of its block.
abbrev pub flex_extended : State → FlexMemory → Result (State × FlexMemory) Refusal
flex_extended cpu s = fit_shown cpu (memory_after_flex s.store
    (flex_after_extend (state_in s) (register_of cpu 0) (register_of cpu 1)))

-- Flex_MidExtend: R0 has an anchor's address, R1 a place in its block, R2 how many bytes come
-- there, or go before it.
abbrev pub flex_mid_extended : State → FlexMemory → Result (State × FlexMemory) Refusal
flex_mid_extended cpu s =
    fit_shown cpu
    (memory_after_flex s.store (mid_extended (state_in s) (register_of cpu 0) (register_of cpu 1)
    (register_of cpu 2)))

unfoldable pub flex_called : State → FlexMemory → Option SwiName → Result (State × FlexMemory) Refusal
flex_called cpu s (Some swi.FlexInit) = flex_made cpu s
flex_called cpu s (Some swi.FlexAlloc) = flex_allocated cpu s
flex_called cpu s (Some swi.FlexFree) = flex_released cpu s
flex_called cpu s (Some swi.FlexSize) = flex_sized cpu s
flex_called cpu s (Some swi.FlexExtend) = flex_extended cpu s
flex_called cpu s (Some swi.FlexMidExtend) = flex_mid_extended cpu s
flex_called cpu s name = system_error SwiUnknown
