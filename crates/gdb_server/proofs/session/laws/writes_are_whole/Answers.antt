use Rattle.gdb_server.proofs.SessionLemmas.WriteLemmas.{writes_are_whole}
use Rattle.gdb_server.proofs.session.laws.writes_are_whole.Goals as goal

pub returns : goal.returns
returns c = writes_are_whole
