use Rattle.law_machine.proofs.SlidingLemmas.PlanKept.{plans_kept}
use Rattle.law_machine.proofs.sliding.laws.plans_stay.Goals as goal

pub returns : goal.returns
returns c = plans_kept
