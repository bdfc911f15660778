use Rattle.assembler_reading.proofs.PrintedAgain.{instructions_are_read_again, data_is_read_again}
use Rattle.assembler_reading.proofs.laws.printed_words_are_read_again.Goals as goal

pub returns-clause-instructions : goal.returns-clause-instructions
returns-clause-instructions c = instructions_are_read_again

pub returns-clause-data : goal.returns-clause-data
returns-clause-data c = data_is_read_again
