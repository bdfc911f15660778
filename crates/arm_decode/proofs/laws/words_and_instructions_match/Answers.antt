use Rattle.arm_decode.proofs.Taken.{word_comes_back, instruction_comes_back}
use Rattle.arm_decode.proofs.laws.words_and_instructions_match.Goals as goal

pub returns-clause-word : goal.returns-clause-word
returns-clause-word c = word_comes_back

pub returns-clause-instruction : goal.returns-clause-instruction
returns-clause-instruction c = instruction_comes_back
