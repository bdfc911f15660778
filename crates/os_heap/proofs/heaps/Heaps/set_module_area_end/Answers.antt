use Rattle.os_heap_words.specs.MemoryMap.{module_area_start}
use Rattle.std.proofs.Common.{◌≡◌, Some, sym, subst}
use Rattle.os_heap_words.specs.Memory.{bytes_of}
use Rattle.os_heap.specs.Store.{store_of, heap_in, find_heap}
use Rattle.os_heap.proofs.Found.{found_heap_kind}
use Rattle.os_heap.proofs.heaps.Heaps.set_module_area_end.Goals as goal

pub set_end-requires-clause-kind : goal.set_end-requires-clause-kind
set_end-requires-clause-kind c =
    found_heap_kind c.args.map.now module_area_start (heap_in (bytes_of c.args.map.now) c.in-Some.region) c.in-Some.ensures.1

pub set_end-requires-clause-found : goal.set_end-requires-clause-found
set_end-requires-clause-found c =
    subst (λ a. find_heap a (store_of c.args.map.now).heaps ≡ Some (heap_in (bytes_of c.args.map.now) c.in-Some.region)) (sym c.in-Some.ensures.0) c.in-Some.ensures.1

pub set_end-requires-clause-may : goal.set_end-requires-clause-may
set_end-requires-clause-may c = rw c.in-Some.ensures.1 at c.requires.may
