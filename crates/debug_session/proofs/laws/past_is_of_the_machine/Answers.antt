use Rattle.debug_session.proofs.HistoryLemmas.{past_is_of_the_machine}
use Rattle.debug_session.proofs.laws.past_is_of_the_machine.Goals as goal

pub returns : goal.returns
returns c = past_is_of_the_machine
