-- As the definition says.
use Rattle.std.proofs.Common.{rules}
use Rattle.assembler_text.specs.naming.Mnemonics.{mnemonic_named}
use Rattle.assembler_text.proofs.naming.mnemonics.mnemonic_named.Goals as goal

pub returns : goal.returns
unfolding mnemonic_named
returns c = search rules
