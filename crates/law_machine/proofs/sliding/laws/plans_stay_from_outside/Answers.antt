use Rattle.law_machine.proofs.SlidingLemmas.PlanKept.{plans_kept_outside}
use Rattle.law_machine.proofs.sliding.laws.plans_stay_from_outside.Goals as goal

pub returns : goal.returns
returns c = plans_kept_outside
