use Rattle.law_machine.proofs.FlexLemmas.Splices.{splice_shows_its_own}
use Rattle.law_machine.proofs.flex.laws.splice_shows_its_own.Goals as goal

pub returns : goal.returns
returns c = splice_shows_its_own
