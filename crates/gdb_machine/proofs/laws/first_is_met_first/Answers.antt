use Rattle.gdb_machine.proofs.BackLemmas.{first_is_met_first}
use Rattle.gdb_machine.proofs.laws.first_is_met_first.Goals as goal

pub returns : goal.returns
returns c = first_is_met_first
