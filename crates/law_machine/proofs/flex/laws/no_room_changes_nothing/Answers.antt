use Rattle.law_machine.proofs.FlexLemmas.Calls.{no_room_changes_nothing}
use Rattle.law_machine.proofs.flex.laws.no_room_changes_nothing.Goals as goal

pub returns : goal.returns
returns c = no_room_changes_nothing
