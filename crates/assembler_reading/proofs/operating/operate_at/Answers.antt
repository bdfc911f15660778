-- Each way out is what the definition says there.
use Rattle.std.proofs.Common.{rules}
use Rattle.assembler_reading.specs.Operating.{operate_at}
use Rattle.assembler_reading.proofs.operating.operate_at.Goals as goal

pub returns-in_default : goal.returns-in_default
unfolding operate_at
returns-in_default c = search rules

pub returns-in_err-comma : goal.returns-in_err-comma
unfolding operate_at
returns-in_err-comma c = search rules

pub returns : goal.returns
unfolding operate_at
returns c = search rules
