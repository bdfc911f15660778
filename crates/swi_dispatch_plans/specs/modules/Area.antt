-- OS_Module, the reasons that act on the relocatable module area: 5, 6, 7 and 13 (RISC OS 3
-- Programmer's Reference Manual, "OS_Module").
use Rattle.std.specs.Prelude.{ℕ, Result, Ok}
use Rattle.profile.specs.Outcome.{bind}
use Rattle.swi_dispatch_answers.specs.State.{State, register_of, with_register}
use Rattle.swi_dispatch_answers.specs.declared.refusal.Refusal.{Refusal}
use Rattle.swi_dispatch_answers.specs.Refusals.{or_error}
use Rattle.instances.specs.Calls.{rma_described, rma_claimed, rma_freed, rma_extended}
use Rattle.instances.specs.module_state.ModuleState.{ModuleState}

-- reason 5, describe: the largest block and all that is free go to R2 and R3
abbrev pub with_room_shown : State → ℕ × ℕ → State
with_room_shown cpu room = with_register (with_register cpu 2 room.0) 3 room.1

abbrev pub area_described : State → ModuleState → Result (State × ModuleState) Refusal
area_described cpu w = Ok (with_room_shown cpu (rma_described w.area_store.store), w)

-- reason 6, claim: R3 has the size, and R2 the block then
abbrev pub block_claimed : State → ModuleState → Result (State × ModuleState) Refusal
block_claimed cpu w =
    bind (or_error (rma_claimed w.area_store (register_of cpu 3)))
    (λ r. Ok (with_register cpu 2 r.1, record w { area_store = r.0 }))

-- reason 7, free: R2 has the block
abbrev pub rma_block_after_free : State → ModuleState → Result (State × ModuleState) Refusal
rma_block_after_free cpu w = bind (or_error (rma_freed w.area_store (register_of cpu 2)))
    (λ r. Ok (cpu, record w { area_store = r.0 }))

-- reason 13, extend: R2 has the block, and where it lies then, or 0; R3 the change
abbrev pub block_extended : State → ModuleState → Result (State × ModuleState) Refusal
block_extended cpu w =
    bind (or_error (rma_extended w.area_store (register_of cpu 2) (register_of cpu 3)))
    (λ r. Ok (with_register cpu 2 r.1, record w { area_store = r.0 }))
