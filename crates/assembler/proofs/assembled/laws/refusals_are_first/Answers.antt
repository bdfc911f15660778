use Rattle.assembler.proofs.AssembledLemmas.Meanings.{lines_are_refused, refusals_are_first}
use Rattle.assembler.proofs.assembled.laws.refusals_are_first.Goals as goal

pub returns : goal.returns
returns c = record { lines = lines_are_refused; source = refusals_are_first }
