use Rattle.assembler.proofs.AssembledLemmas.Counts.{items_go_on, registers_go_on, terms_go_on}
use Rattle.assembler.proofs.assembled.laws.lists_go_on.Goals as goal

pub returns : goal.returns
returns c = record { terms = terms_go_on; items = items_go_on; registers = registers_go_on }
