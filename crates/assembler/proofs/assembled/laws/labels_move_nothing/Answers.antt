use Rattle.assembler.proofs.AssembledLemmas.Relabelled.{labels_move_nothing}
use Rattle.assembler.proofs.assembled.laws.labels_move_nothing.Goals as goal

pub returns : goal.returns
returns c = labels_move_nothing
