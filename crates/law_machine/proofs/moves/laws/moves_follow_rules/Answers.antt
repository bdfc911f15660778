use Rattle.law_machine.proofs.MovesLemmas.Following.{moves_follow}
use Rattle.law_machine.proofs.moves.laws.moves_follow_rules.Goals as goal

pub returns : goal.returns
returns c = moves_follow
