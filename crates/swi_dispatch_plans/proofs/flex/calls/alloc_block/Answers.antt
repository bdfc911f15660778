use Rattle.std.proofs.Common.{Bool}
use Rattle.swi_dispatch_plans.proofs.FlexFrameLemmas.Calls.{has_allocated}
use Rattle.flex_store.specs.Calls.{flex_after_alloc}
use Rattle.os_heap.specs.Store.{store_of}
use Rattle.swi_dispatch_plans.proofs.FlexLemmas.Called.{call_left, leaves_called}
use Rattle.swi_dispatch_plans.proofs.flex.calls.alloc_block.Goals as goal

pub returns-clause-state : goal.returns-clause-state
returns-clause-state c =
    let did = c.alloc.ensures in
    call_left Bool _ _ _ _ (λ t. flex_after_alloc (store_of c.args.memory.now) t c.args.anchor c.args.size) _
    c.requires.flex.is did.kept did.state

pub returns-clause-leaves : goal.returns-clause-leaves
returns-clause-leaves c =
    let did = c.alloc.ensures in
    leaves_called _ _ _ did.kept (has_allocated _ _ _ _ _ _ _ c.requires.sound c.requires.flex did.kept did.state)
