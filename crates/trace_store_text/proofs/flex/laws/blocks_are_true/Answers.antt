use Rattle.trace_store_text.proofs.FlexProofs.LawLemmas.{are_true}
use Rattle.trace_store_text.proofs.flex.laws.blocks_are_true.Goals as goal

pub returns : goal.returns
returns c = are_true
