use Rattle.gdb_server.proofs.SessionLemmas.WriteLemmas.{registers_are_read}
use Rattle.gdb_server.proofs.session.laws.registers_are_read.Goals as goal

pub returns : goal.returns
returns c = registers_are_read
