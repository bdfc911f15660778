use Rattle.trace_effects.proofs.ChangesLemmas.ReplayLemmas.{replays}
use Rattle.trace_effects.proofs.changes.laws.changes_replay.Goals as goal

pub returns : goal.returns
returns c = replays
