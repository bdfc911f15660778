use Rattle.trace_store_text.proofs.ModulesLemmas.LawLemmas.{explains}
use Rattle.trace_store_text.proofs.modules.laws.instances_are_explained.Goals as goal

pub returns : goal.returns
returns c = explains
