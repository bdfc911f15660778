use Rattle.gdb_server.proofs.SessionLemmas.SearchLemmas.{searches_are_one}
use Rattle.gdb_server.proofs.session.laws.searches_are_one_search.Goals as goal

pub returns : goal.returns
returns c = searches_are_one
