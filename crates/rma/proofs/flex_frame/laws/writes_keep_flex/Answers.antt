use Rattle.rma.proofs.FlexFrameLemmas.Writes.{writes_keep_all}
use Rattle.rma.proofs.flex_frame.laws.writes_keep_flex.Goals as goal

pub returns : goal.returns
returns c = writes_keep_all
