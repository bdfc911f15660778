-- By the lemmas of `fill_steps`.
use Rattle.std.proofs.Common.{arith}
use Rattle.command_shell_lines.proofs.NamedByteLemmas.{fill_steps}
use Rattle.command_shell_lines.proofs.debug_words.named_bytes.fill_bytes.Goals as goal

pub loop-byte-init : goal.loop-byte-init
loop-byte-init c = grind (arith, fill_steps)

pub loop-byte-preserved : goal.loop-byte-preserved
loop-byte-preserved c = grind (arith, fill_steps)
