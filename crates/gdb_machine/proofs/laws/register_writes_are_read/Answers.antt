use Rattle.gdb_machine.proofs.WriteLemmas.{register_writes_are_read}
use Rattle.gdb_machine.proofs.laws.register_writes_are_read.Goals as goal

pub returns : goal.returns
returns c = register_writes_are_read
