use Rattle.law_machine.proofs.FlagsLemmas.Flags.{flags_exact}
use Rattle.law_machine.proofs.flags.laws.flags_are_exact.Goals as goal

pub returns : goal.returns
returns c = flags_exact
