use Rattle.swi_dispatch_plans.proofs.FlexFrameLemmas.ModuleStates.{begun_module_state}
use Rattle.swi_dispatch_plans.proofs.flex_frame.module_state_laws.module_states_with_flex.Goals as goal

pub returns : goal.returns
returns c = begun_module_state
