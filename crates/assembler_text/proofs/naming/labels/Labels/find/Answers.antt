-- By the lemmas of `Entries`.
use Rattle.std.proofs.Common.{arith}
use Rattle.assembler_text.proofs.NamingLemmas.Entries.{label_steps}
use Rattle.assembler_text.specs.naming.Labels.{address_of}
use Rattle.assembler_text.proofs.naming.labels.Labels.find.Goals as goal

pub returns : goal.returns
unfolding address_of
returns c = grind (arith, label_steps)
