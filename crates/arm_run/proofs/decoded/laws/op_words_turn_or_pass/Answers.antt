use Rattle.arm_run.proofs.DecodedLemmas.PlainLemmas.{interrupts_turn, unmet_conditions_pass}
use Rattle.arm_run.proofs.decoded.laws.op_words_turn_or_pass.Goals as goal

pub returns-clause-turn : goal.returns-clause-turn
returns-clause-turn c = interrupts_turn

pub returns-clause-pass : goal.returns-clause-pass
returns-clause-pass c = unmet_conditions_pass
