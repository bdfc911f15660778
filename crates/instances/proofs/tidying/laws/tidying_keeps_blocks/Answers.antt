use Rattle.instances.proofs.TidyingLemmas.LawLemmas.{tidy_keeps_blocks}
use Rattle.instances.proofs.tidying.laws.tidying_keeps_blocks.Goals as goal

pub returns : goal.returns
returns c = tidy_keeps_blocks
