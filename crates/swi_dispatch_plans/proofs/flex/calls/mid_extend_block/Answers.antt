use Rattle.std.proofs.Common.{Bool}
use Rattle.swi_dispatch_plans.proofs.FlexFrameLemmas.Calls.{has_mid_extended}
use Rattle.flex_store.specs.Calls.{mid_extended}
use Rattle.swi_dispatch_plans.proofs.FlexLemmas.Called.{call_left, leaves_called}
use Rattle.swi_dispatch_plans.proofs.flex.calls.mid_extend_block.Goals as goal

pub returns-clause-state : goal.returns-clause-state
returns-clause-state c =
    let did = c.mid_extend.ensures in
    call_left Bool _ _ _ _ (λ t. mid_extended t c.args.anchor c.args.at c.args.by) _ c.requires.flex.is
    did.kept did.state

pub returns-clause-leaves : goal.returns-clause-leaves
returns-clause-leaves c =
    let did = c.mid_extend.ensures in
    leaves_called _ _ _ did.kept (has_mid_extended _ _ _ _ _ _ _ _ c.requires.sound c.requires.flex did.kept did.state)
