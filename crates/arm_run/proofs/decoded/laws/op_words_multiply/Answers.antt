use Rattle.arm_run.proofs.DecodedLemmas.PlainLemmas.{products_are_set}
use Rattle.arm_run.proofs.decoded.laws.op_words_multiply.Goals as goal

pub returns : goal.returns
returns c = products_are_set
