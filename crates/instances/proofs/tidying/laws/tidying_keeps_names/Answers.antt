use Rattle.instances.proofs.TidyingLemmas.NameLemmas.{tidy_keeps_names}
use Rattle.instances.proofs.tidying.laws.tidying_keeps_names.Goals as goal

pub returns : goal.returns
returns c = tidy_keeps_names
