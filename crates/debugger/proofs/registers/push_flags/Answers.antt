-- As the definition says.
use Rattle.std.proofs.Common.{rules}
use Rattle.debugger.specs.Registers.{flags_and_mode_text}
use Rattle.debugger.proofs.registers.push_flags.Goals as goal

pub returns : goal.returns
unfolding flags_and_mode_text
returns g c = search rules
