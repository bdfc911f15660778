use Rattle.trace_store_text.proofs.FlexProofs.LawLemmas.{explains}
use Rattle.trace_store_text.proofs.flex.laws.blocks_are_explained.Goals as goal

pub returns : goal.returns
returns c = explains
