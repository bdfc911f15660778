-- Each way out is what the definition says there.
use Rattle.std.proofs.Common.{rules}
use Rattle.assembler.specs.Passes.{means_lines}
use Rattle.assembler.proofs.assembling.both_passes.Goals as goal

pub returns-in-Ok : goal.returns-in-Ok
unfolding means_lines
returns-in-Ok c = search rules

pub returns-in-Err : goal.returns-in-Err
unfolding means_lines
returns-in-Err c = search rules
