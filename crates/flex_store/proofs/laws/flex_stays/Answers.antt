use Rattle.flex_store.proofs.Staying.{flex_stays}
use Rattle.flex_store.proofs.laws.flex_stays.Goals as goal

pub returns : goal.returns
returns c = flex_stays
