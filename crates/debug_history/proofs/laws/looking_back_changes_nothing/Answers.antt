use Rattle.debug_history.proofs.LookingLemmas.{looking_back_changes_nothing}
use Rattle.debug_history.proofs.laws.looking_back_changes_nothing.Goals as goal

pub returns : goal.returns
returns c = looking_back_changes_nothing
