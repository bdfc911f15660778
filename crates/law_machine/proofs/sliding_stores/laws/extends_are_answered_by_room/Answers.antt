use Rattle.law_machine.proofs.SlidingStoresLemmas.Room.{extend_room}
use Rattle.law_machine.proofs.sliding_stores.laws.extends_are_answered_by_room.Goals as goal

pub returns : goal.returns
returns c = extend_room
