use Rattle.debug_history.proofs.UndoLemmas.{undo_undoes}
use Rattle.debug_history.proofs.laws.undo_is_undo.Goals as goal

pub returns : goal.returns
returns c = undo_undoes
