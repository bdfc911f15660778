-- As the definitions say.
use Rattle.std.proofs.Common.{arith}
use Rattle.std.proofs.lemmas.Grind.{common_steps}
use Rattle.trace_text.specs.Core.{carry_flag_words, mask_flag_words, sign_flag_words}
use Rattle.trace_text.proofs.core_text.push_flags.Goals as goal

pub returns : goal.returns
unfolding sign_flag_words carry_flag_words mask_flag_words
returns g c = grind (arith, common_steps)
