use Rattle.law_machine.proofs.HaltsLemmas.LateErrors.{erring_changes_move_pages}
use Rattle.law_machine.proofs.halts.laws.erring_changes_move_pages.Goals as goal

pub returns : goal.returns
returns c = erring_changes_move_pages
