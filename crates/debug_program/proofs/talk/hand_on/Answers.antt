use Rattle.debug_program.proofs.ResultLemmas.{flag_kept}
use Rattle.debug_program.proofs.talk.hand_on.Goals as goal

pub returns-in-Ok-clause-same_flag : goal.returns-in-Ok-clause-same_flag
returns-in-Ok-clause-same_flag g c = flag_kept _ _ c.in-Ok.ensures.flag c.flush.ensures.stays
