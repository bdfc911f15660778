use Rattle.debug_modules.proofs.TurnLemmas.{service_calls_in_turn}
use Rattle.debug_modules.proofs.laws.service_calls_in_turn.Goals as goal

pub returns : goal.returns
returns c = service_calls_in_turn
