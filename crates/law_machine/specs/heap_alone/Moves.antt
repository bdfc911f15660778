-- Moves of a machine: store calls that a user makes from outside, and steps. Which of them are
-- calls on one heap, what they ask and what they answer (RISC OS 3 Programmer's Reference Manual,
-- "OS_Heap", reasons 1 to 6: the heap in R1, a block in R2, a size in R3).
use Rattle.swi_dispatch_guest.specs.Moves.{Call, Move, Step, machine_with_words, machine_after_event, outside_name}
use Rattle.std.specs.Prelude.{ℕ, ◌+◌, ◌==◌, ◌&&◌, ◌++◌, Bool, true, false, Option, Some, None, List, [], ◌∷◌, if◌then◌else◌}
use Rattle.profile.specs.Reasons.{heap_reason}
use Rattle.profile.specs.declared.reason.HeapReason.{HeapReason}
use Rattle.profile.specs.declared.swi.SwiName.{SwiName}
use Rattle.profile.specs.declared.swi.SwiName.TheVariants as swi
use Rattle.arm_core.specs.State.{State, register_of}
use Rattle.profile.specs.images.Entries.{Entry}
use Rattle.os_heap_words.specs.lists.Heap.{HeapList}
use Rattle.os_heap.specs.Store.{Store, find_heap}
use Rattle.law_machine.specs.heap_calls.Alone.{HeapCall, call_given}
use Rattle.law_machine.specs.heap_calls.Lists.{is_on_heap}
use Rattle.law_machine.specs.heap_calls.Turns.{Answered, Refused, Reply}
use Rattle.swi_dispatch_guest.specs.Errors.{error_number}
use Rattle.swi_dispatch_guest.specs.MachineState.{MachineState}

abbrev pub is_heap_swi : Option SwiName → Bool
is_heap_swi (Some swi.Heap) = true
is_heap_swi other = false

-- Is OS_Heap called on the heap at `start`? Reason 0 makes a heap and doesn't count.
abbrev pub is_for_heap : Option HeapReason → Bool
is_for_heap None = false
is_for_heap (Some why) = is_on_heap why

abbrev pub is_swi_to : ℕ → State → Bool
is_swi_to start cpu = is_for_heap (heap_reason (register_of cpu 0)) && register_of cpu 1 == start

-- such a call from outside is the heap's own
abbrev pub is_own : ℕ → MachineState → Move → Bool
is_own start s (Call number words) = is_heap_swi (outside_name number)
    && is_swi_to start (machine_with_words s words).cpu
is_own start s Step = false

-- What it asks of the heap that is found there, and what it answers: R2 and R3, or with V set the
-- error's number.
abbrev pub heap_calls_of_swi : Store → State → Option HeapReason → Option HeapList → List HeapCall
heap_calls_of_swi s cpu (Some why) (Some h) = call_given s h why (register_of cpu 2) (register_of cpu 3) ∷ []
heap_calls_of_swi s cpu why found = []

abbrev pub asked_by : ℕ → MachineState → Move → List HeapCall
asked_by start s (Call number words) =
    heap_calls_of_swi s.store (machine_with_words s words).cpu
    (heap_reason (register_of (machine_with_words s words).cpu 0)) (find_heap start s.store.heaps)
asked_by start s Step = []

abbrev pub reply_of_machine : MachineState → Reply
reply_of_machine s = if s.cpu.psr.overflow then Refused (error_number s)
    else Answered (register_of s.cpu 2) (register_of s.cpu 3)

-- the own calls of a list of moves, and the answers to them
abbrev pub calls_in : List Entry → ℕ → MachineState → List Move → List HeapCall
calls_in images start s [] = []
calls_in images start s (m ∷ ms) =
    (if is_own start s m then asked_by start s m else [])
    ++ calls_in images start (machine_after_event images s m) ms

abbrev pub answers_in : List Entry → ℕ → MachineState → List Move → List Reply
answers_in images start s [] = []
answers_in images start s (m ∷ ms) =
    (if is_own start s m then reply_of_machine (machine_after_event images s m) ∷ [] else [])
    ++ answers_in images start (machine_after_event images s m) ms
