use Rattle.trace_store_text.proofs.ModulesLemmas.LawLemmas.{are_true}
use Rattle.trace_store_text.proofs.modules.laws.instances_are_true.Goals as goal

pub returns : goal.returns
returns c = are_true
