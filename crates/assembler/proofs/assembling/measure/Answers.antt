-- Each way out is what the definition says there.
use Rattle.std.proofs.Common.{rules}
use Rattle.assembler.specs.Passes.{measured_with_line}
use Rattle.assembler.proofs.assembling.measure.Goals as goal

pub returns-in_default-clause-reported : goal.returns-in_default-clause-reported
unfolding measured_with_line
returns-in_default-clause-reported c = search rules

pub returns-then-is_some-clause-reported : goal.returns-then-is_some-clause-reported
unfolding measured_with_line
returns-then-is_some-clause-reported c = search rules

pub returns-then-is_too_long-clause-reported : goal.returns-then-is_too_long-clause-reported
unfolding measured_with_line
returns-then-is_too_long-clause-reported c = search rules

pub returns-in_ok-map_err-clause-reported : goal.returns-in_ok-map_err-clause-reported
unfolding measured_with_line
returns-in_ok-map_err-clause-reported c = search rules

pub returns-else-not-is_empty-2-clause-reported : goal.returns-else-not-is_empty-2-clause-reported
unfolding measured_with_line
returns-else-not-is_empty-2-clause-reported c = search rules
