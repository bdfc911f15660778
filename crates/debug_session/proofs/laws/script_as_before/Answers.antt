use Rattle.debug_session.proofs.AsBeforeLemmas.{script_as_before}
use Rattle.debug_session.proofs.laws.script_as_before.Goals as goal

pub returns : goal.returns
returns c = script_as_before
