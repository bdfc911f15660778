use Rattle.law_machine.proofs.SlidingStoresLemmas.Room.{alloc_room}
use Rattle.law_machine.proofs.sliding_stores.laws.allocs_are_answered_by_room.Goals as goal

pub returns : goal.returns
returns c = alloc_room
