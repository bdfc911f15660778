use Rattle.assembler.proofs.AssembledLemmas.Meanings.{lines_are_pieces, programs_are_pieces}
use Rattle.assembler.proofs.assembled.laws.programs_are_pieces.Goals as goal

pub returns : goal.returns
returns c = record { lines = lines_are_pieces; source = programs_are_pieces }
