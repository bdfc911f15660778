use Rattle.debug_program.proofs.TakenLemmas.{taken_one_way}
use Rattle.debug_program.proofs.typing.DebugTyping.taken_one_way.Goals as goal

pub returns : goal.returns
returns c = taken_one_way
