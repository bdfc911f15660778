use Rattle.assembler.proofs.PrintedPrograms.{printed_words_are_assembled}
use Rattle.assembler.proofs.laws.printed_words_are_assembled.Goals as goal

pub returns : goal.returns
returns c = printed_words_are_assembled
