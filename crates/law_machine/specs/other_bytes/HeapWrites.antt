-- Which bytes of the whole of memory a call of OS_Heap writes: those of the words that the list of
-- its heap spells then, and where it moves a block, also what it copies (RISC OS 3 Programmer's
-- Reference Manual, "OS_Heap", reasons 0 to 6).
use Rattle.std.specs.Prelude.{ℕ, ◌≡◌, ◌⊎◌, Ok}
use Rattle.profile.specs.declared.reason.HeapReason.{HeapReason}
use Rattle.os_heap.specs.Store.{IsSound, Store}
use Rattle.law_machine.specs.heap_calls.Turns.{call_on}
use Rattle.law_machine.specs.live_bytes.HeapWrites.{IsWrittenFor}

-- The call on the heap at `heap`, with a block in R2 and a size or a change of one in R3, was done,
-- and answered R2. Then each byte of memory stays, or is one that the call's reason writes: so what
-- a block held that is given up, what a block gets in its place, what a heap gets at its end, and
-- what is free, stays as it is.
abbrev pub HeapCallsKeepOthers : Type 0
HeapCallsKeepOthers =
    (s t : Store) (heap block size r2 r3 a : ℕ) (why : HeapReason) → IsSound s → IsSound t
    → call_on s heap why block size ≡ Ok (t, (r2, r3))
    → (t.bytes.at a ≡ s.bytes.at a) ⊎ IsWrittenFor why s t heap block size r2 a
