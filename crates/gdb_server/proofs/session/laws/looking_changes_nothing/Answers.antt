use Rattle.gdb_server.proofs.SessionLemmas.LookLemmas.{looking_changes_nothing}
use Rattle.gdb_server.proofs.session.laws.looking_changes_nothing.Goals as goal

pub returns : goal.returns
returns c = looking_changes_nothing
