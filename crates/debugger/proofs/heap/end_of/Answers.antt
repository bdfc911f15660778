use Rattle.std.proofs.Common.{◌≡◌, ℕ, ◌+◌, Result, Ok, ap, ◌∙◌, arith}
use Rattle.std.specs.Result.{result_unwrap_or}
use Rattle.swi_dispatch_guest.specs.Fault.{Fault}
use Rattle.swi_dispatch_guest.specs.Bytes.{word_loaded}
use Rattle.swi_dispatch_guest.specs.AddressMapMemory.{bytes_of}
use Rattle.swi_dispatch_guest.specs.Store.{store_of, find_heap}
use Rattle.debugger.proofs.HeapLemmas.{low_heap, end_is, if_then}
use Rattle.debugger.proofs.heap.end_of.Goals as goal

pub overflow_add-heap : goal.overflow_add-heap
overflow_add-heap c = omega (arith, low_heap c.args.memory.now c.args.heap c.requires.sound c.requires.there)

pub returns : goal.returns
returns c =
    let m = c.args.memory.now in
    if_then (find_heap c.args.heap (store_of m).heaps) (λ h. word_loaded (bytes_of m) (c.args.heap + 12) ≡ Ok (h.end)) (λ h. c.unwrap_or.result ≡ h.end)
    (end_is m c.args.heap c.requires.sound)
    (λ h e. c.unwrap_or.ensures ∙ ap (λ (r : Result ℕ Fault). result_unwrap_or r 0) (c.load_word.ensures ∙ e))
