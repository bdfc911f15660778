use Rattle.swi_dispatch_plans.proofs.FlexFrameLemmas.Calls.{has_released}
use Rattle.flex_store.specs.Calls.{flex_after_release}
use Rattle.swi_dispatch_plans.proofs.FlexLemmas.Called.{call_left, leaves_called}
use Rattle.swi_dispatch_plans.proofs.flex.calls.release_block.Goals as goal

pub returns-clause-state : goal.returns-clause-state
returns-clause-state c =
    let did = c.release.ensures in
    call_left (Unit {0}) _ _ _ _ (λ t. flex_after_release t c.args.anchor) _ c.requires.flex.is
    did.kept did.state

pub returns-clause-leaves : goal.returns-clause-leaves
returns-clause-leaves c =
    let did = c.release.ensures in
    leaves_called _ _ _ did.kept (has_released _ _ _ _ _ _ c.requires.sound c.requires.flex did.kept did.state)
