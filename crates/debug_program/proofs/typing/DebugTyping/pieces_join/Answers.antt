use Rattle.debug_program.proofs.TakenLemmas.{pieces_join}
use Rattle.debug_program.proofs.typing.DebugTyping.pieces_join.Goals as goal

pub returns : goal.returns
returns c = pieces_join
