use Rattle.debug_tables.proofs.CountsLemmas.CountLemmas.{exact}
use Rattle.debug_tables.proofs.counts.laws.counts_are_exact.Goals as goal

pub returns : goal.returns
returns c = exact
