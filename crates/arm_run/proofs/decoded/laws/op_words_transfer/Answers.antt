use Rattle.arm_run.proofs.DecodedLemmas.TransferLemmas.{numbers_transfer, registers_transfer, words_beside_load}
use Rattle.arm_run.proofs.decoded.laws.op_words_transfer.Goals as goal

pub returns-clause-number : goal.returns-clause-number
returns-clause-number c = numbers_transfer

pub returns-clause-register : goal.returns-clause-register
returns-clause-register c = registers_transfer

pub returns-clause-beside : goal.returns-clause-beside
returns-clause-beside c = words_beside_load
