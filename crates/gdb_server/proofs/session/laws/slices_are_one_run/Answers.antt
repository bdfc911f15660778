use Rattle.gdb_server.proofs.SessionLemmas.SliceLemmas.{slices_are_one_run}
use Rattle.gdb_server.proofs.session.laws.slices_are_one_run.Goals as goal

pub returns : goal.returns
returns c = slices_are_one_run
