use Rattle.law_machine.proofs.HeapFrameLemmas.Guests.{guests_outside}
use Rattle.law_machine.proofs.heap_frame.laws.guest_heaps_lie_outside.Goals as goal

pub returns : goal.returns
returns c = guests_outside
