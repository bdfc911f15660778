use Rattle.law_machine.proofs.SlidingStoresLemmas.Room.{mid_room}
use Rattle.law_machine.proofs.sliding_stores.laws.mid_extends_are_answered_by_room.Goals as goal

pub returns : goal.returns
returns c = mid_room
