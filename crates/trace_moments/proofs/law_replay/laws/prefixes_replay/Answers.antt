use Rattle.trace_moments.proofs.LawReplayLemmas.PrefixLemmas.{prefixes}
use Rattle.trace_moments.proofs.law_replay.laws.prefixes_replay.Goals as goal

pub returns : goal.returns
returns c = prefixes
