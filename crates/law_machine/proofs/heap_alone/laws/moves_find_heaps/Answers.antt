use Rattle.law_machine.proofs.HeapAloneLemmas.FoundHeaps.{heap_calls_forget, moves_forget_none, outer_stay}
use Rattle.law_machine.proofs.heap_alone.laws.moves_find_heaps.Goals as goal

pub returns : goal.returns
returns c = record { outer = outer_stay; others = moves_forget_none; calls = heap_calls_forget }
