use Rattle.arm_run.proofs.DecodedLemmas.PlainLemmas.{immediates_operate, registers_operate, shifts_operate}
use Rattle.arm_run.proofs.decoded.laws.op_words_operate.Goals as goal

pub returns-clause-immediate : goal.returns-clause-immediate
returns-clause-immediate c = immediates_operate

pub returns-clause-register : goal.returns-clause-register
returns-clause-register c = registers_operate

pub returns-clause-shift : goal.returns-clause-shift
returns-clause-shift c = shifts_operate
