use Rattle.law_machine.proofs.SlidingLemmas.Reported.{flex_calls_print_room}
use Rattle.law_machine.proofs.sliding.laws.flex_calls_print_room.Goals as goal

pub returns : goal.returns
returns c = flex_calls_print_room
