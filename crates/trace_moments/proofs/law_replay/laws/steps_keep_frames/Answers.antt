use Rattle.trace_moments.proofs.LawReplayLemmas.StepLemmas.{steps_keep}
use Rattle.trace_moments.proofs.law_replay.laws.steps_keep_frames.Goals as goal

pub returns : goal.returns
returns c = steps_keep
