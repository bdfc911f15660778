use Rattle.debug_session.proofs.RefusalLemmas.{refused_as_before}
use Rattle.debug_session.proofs.laws.refused_as_before.Goals as goal

pub returns : goal.returns
returns c = refused_as_before
