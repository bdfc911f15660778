-- OS_Heap, by its reason in R0: the heap is in R1, a block in R2, a size or a change of one in R3;
-- what is answered goes to R2 and R3 (RISC OS 3 Programmer's Reference Manual, "OS_Heap").
use Rattle.std.specs.Prelude.{Option, Some, None, Result, Ok}
use Rattle.profile.specs.Outcome.{bind}
use Rattle.profile.specs.Reasons.{heap_reason}
use Rattle.profile.specs.ErrorNumber.TheVariants.{HeapBadReason}
use Rattle.profile.specs.declared.reason.HeapReason.{HeapReason}
use Rattle.profile.specs.declared.reason.HeapReason.TheVariants as reason
use Rattle.swi_dispatch_answers.specs.State.{State, register_of, with_register}
use Rattle.os_heap.specs.Calls.{store_after_resize, store_after_change, block_sized, store_after_get, gave_back, heap_description, store_after_init}
use Rattle.os_heap.specs.Store.{Store}
use Rattle.swi_dispatch_answers.specs.declared.refusal.Refusal.{Refusal}
use Rattle.swi_dispatch_answers.specs.Refusals.{or_error, system_error}

abbrev pub heap_begun : State → Store → Result (State × Store) Refusal
heap_begun cpu s = bind (or_error (store_after_init s (register_of cpu 1) (register_of cpu 3)))
    (λ r. Ok (cpu, r.0))

abbrev pub heap_described : State → Store → Result (State × Store) Refusal
heap_described cpu s =
    bind (or_error (heap_description s (register_of cpu 1)))
    (λ r. Ok (with_register (with_register cpu 2 r.0) 3 r.1, s))

abbrev pub block_got : State → Store → Result (State × Store) Refusal
block_got cpu s =
    bind (or_error (store_after_get s (register_of cpu 1) (register_of cpu 3)))
    (λ r. Ok (with_register cpu 2 r.1, r.0))

abbrev pub heap_block_after_free : State → Store → Result (State × Store) Refusal
heap_block_after_free cpu s = bind (or_error (gave_back s (register_of cpu 1) (register_of cpu 2)))
    (λ r. Ok (cpu, r.0))

abbrev pub block_resized : State → Store → Result (State × Store) Refusal
block_resized cpu s =
    bind (or_error (store_after_resize s (register_of cpu 1) (register_of cpu 2) (register_of cpu 3)))
    (λ r. Ok (with_register cpu 2 r.1, r.0))

abbrev pub heap_resized : State → Store → Result (State × Store) Refusal
heap_resized cpu s = bind (or_error (store_after_change s (register_of cpu 1) (register_of cpu 3)))
    (λ r. Ok (cpu, r.0))

abbrev pub block_measured : State → Store → Result (State × Store) Refusal
block_measured cpu s =
    bind (or_error (block_sized s (register_of cpu 1) (register_of cpu 2)))
    (λ n. Ok (with_register cpu 3 n, s))

abbrev pub heap_called_for : State → Store → Option HeapReason → Result (State × Store) Refusal
heap_called_for cpu s (Some reason.Initialise) = heap_begun cpu s
heap_called_for cpu s (Some reason.Describe) = heap_described cpu s
heap_called_for cpu s (Some reason.Get) = block_got cpu s
heap_called_for cpu s (Some reason.Free) = heap_block_after_free cpu s
heap_called_for cpu s (Some reason.Resize) = block_resized cpu s
heap_called_for cpu s (Some reason.ChangeSize) = heap_resized cpu s
heap_called_for cpu s (Some reason.BlockSize) = block_measured cpu s
heap_called_for cpu s None = system_error HeapBadReason

unfoldable pub heap_called : State → Store → Result (State × Store) Refusal
heap_called cpu s = heap_called_for cpu s (heap_reason (register_of cpu 0))
