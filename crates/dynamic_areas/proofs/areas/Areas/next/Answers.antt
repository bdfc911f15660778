-- Each way out is what the definition says there.
use Rattle.std.proofs.Common.{rules}
use Rattle.dynamic_areas.specs.Areas.{next_number}
use Rattle.dynamic_areas.proofs.areas.Areas.next.Goals as goal

pub returns-then-number-eq-MINUS_ONE : goal.returns-then-number-eq-MINUS_ONE
unfolding next_number
returns-then-number-eq-MINUS_ONE c = search rules

pub returns-in_err-info : goal.returns-in_err-info
unfolding next_number
returns-in_err-info c = search rules

pub returns : goal.returns
unfolding next_number
returns c = search rules
