-- As the definition says.
use Rattle.std.proofs.Common.{rules}
use Rattle.os_heap.specs.Store.{store_of}
use Rattle.swi_dispatch_plans.specs.PlannerInput.{string_asked}
use Rattle.swi_dispatch_plans.proofs.planner.Planner.string.Goals as goal

pub returns : goal.returns
unfolding store_of string_asked
returns c = search rules
