use Rattle.swi_dispatch_plans.proofs.FlexLemmas.Called.{leaves_same}
use Rattle.swi_dispatch_plans.proofs.flex.calls.call_flex.Goals as goal

pub returns-in-Some-FlexSize-clause-leaves : goal.returns-in-Some-FlexSize-clause-leaves
returns-in-Some-FlexSize-clause-leaves c = leaves_same _ _ c.requires
