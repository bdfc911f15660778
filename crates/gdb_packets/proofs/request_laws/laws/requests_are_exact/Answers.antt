use Rattle.gdb_packets.proofs.RequestLawsLemmas.ExactLemmas.{requests_are_exact}
use Rattle.gdb_packets.proofs.request_laws.laws.requests_are_exact.Goals as goal

pub returns : goal.returns
returns c = requests_are_exact
