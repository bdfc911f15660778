use Rattle.law_machine.proofs.FlexNamesLemmas.Telling.{names_print_blocks}
use Rattle.law_machine.proofs.flex_names.laws.names_print_blocks.Goals as goal

pub returns : goal.returns
returns c = names_print_blocks
