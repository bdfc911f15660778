use Rattle.law_machine.proofs.LiveBytesLemmas.FlexPlaces.{flex_store_stays, loads_keep_flex_store}
use Rattle.law_machine.proofs.live_bytes.laws.flex_store_stays.Goals as goal

pub returns-clause-moves : goal.returns-clause-moves
returns-clause-moves c = flex_store_stays

pub returns-clause-loads : goal.returns-clause-loads
returns-clause-loads c = loads_keep_flex_store
