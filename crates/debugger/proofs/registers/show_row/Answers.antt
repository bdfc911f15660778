-- As the definition says.
use Rattle.std.proofs.Common.{rules}
use Rattle.debugger.specs.Registers.{row_text}
use Rattle.debugger.proofs.registers.show_row.Goals as goal

pub returns : goal.returns
unfolding row_text
returns g c = search rules
