use Rattle.debug_session.proofs.AsBeforeLemmas.{looking_leaves_the_machine}
use Rattle.debug_session.proofs.laws.looking_leaves_the_machine.Goals as goal

pub returns : goal.returns
returns c = looking_leaves_the_machine
