use Rattle.gdb_server.proofs.SessionLemmas.LookLemmas.{looking_lines}
use Rattle.gdb_server.proofs.session.laws.looking_lines_leave_the_machine.Goals as goal

pub returns : goal.returns
returns c = looking_lines
