use Rattle.std.proofs.Common.{ap, ◌∙◌}
use Rattle.swi_dispatch_plans.proofs.FlexFrameLemmas.Calls.{state_is}
use Rattle.flex_store.specs.Calls.{FlexState, flex_block_size}
use Rattle.swi_dispatch_plans.proofs.flex.calls.block_size.Goals as goal

pub returns : goal.returns
returns c = c.size.ensures ∙ ap (λ (t : FlexState). flex_block_size t c.args.anchor) (state_is _ _)
