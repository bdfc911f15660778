use Rattle.debug_session.proofs.HistoryLemmas.{history_changes_no_answer}
use Rattle.debug_session.proofs.laws.history_changes_no_answer.Goals as goal

pub returns : goal.returns
returns c = history_changes_no_answer
