use Rattle.debug_program.proofs.TakenLemmas.{piece_then_rest}
use Rattle.debug_program.proofs.typing.DebugTyping.piece_then_rest.Goals as goal

pub returns : goal.returns
returns c = piece_then_rest
