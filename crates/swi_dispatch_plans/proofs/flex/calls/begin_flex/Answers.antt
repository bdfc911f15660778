use Rattle.std.proofs.Common.{refl}
use Rattle.swi_dispatch_plans.proofs.FlexLemmas.Made.{made_given, made_leaves}
use Rattle.swi_dispatch_plans.proofs.flex.calls.begin_flex.Goals as goal

pub returns-clause-state : goal.returns-clause-state
returns-clause-state c =
    let did = c.init.ensures in
    made_given _ _ _ _ _ _ _ c.requires.flex.is did.state did.kept did.regions

pub returns-clause-leaves : goal.returns-clause-leaves
returns-clause-leaves c =
    let did = c.init.ensures in
    made_leaves _ _ _ _ _ _ _ _ c.requires.flex refl did.state did.kept did.regions
