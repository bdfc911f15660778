use Rattle.flex_store.proofs.Room.{answers_are_room}
use Rattle.flex_store.proofs.laws.answers_are_room.Goals as goal

pub returns : goal.returns
returns c = answers_are_room
