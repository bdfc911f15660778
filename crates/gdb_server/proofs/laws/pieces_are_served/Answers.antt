use Rattle.gdb_server.proofs.ServingLemmas.{served_append}
use Rattle.gdb_server.proofs.laws.pieces_are_served.Goals as goal

pub returns : goal.returns
returns c = served_append
