-- What differs is written elsewhere.
use Rattle.std.proofs.Common.{refl}
use Rattle.debug_session.proofs.FailLemmas.{anyhow}
use Rattle.debug_records.proofs.recorder.Twin.push_made.Goals as goal

pub returns-in-Steps : goal.returns-in-Steps
returns-in-Steps c = anyhow c.push_ending.result _ refl
