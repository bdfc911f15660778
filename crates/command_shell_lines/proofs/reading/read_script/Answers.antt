-- By the lemmas of `read_steps`.
use Rattle.std.proofs.Common.{arith}
use Rattle.command_shell_lines.proofs.ReadLemmas.{read_steps}
use Rattle.command_shell_lines.proofs.reading.read_script.Goals as goal

pub loop-pulls-preserved : goal.loop-pulls-preserved
loop-pulls-preserved g c = grind (arith, read_steps)
