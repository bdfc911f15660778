-- OS_Module, by its reason in R0, where no module code is to run (RISC OS 3 Programmer's Reference
-- Manual, "OS_Module"; the numbers of the errors are this project's own). All other reasons are
-- unknown here.
use Rattle.std.specs.Prelude.{Option, Some, Result}
use Rattle.profile.specs.Reasons.{module_reason}
use Rattle.profile.specs.ErrorNumber.TheVariants.{ModuleBadReason}
use Rattle.profile.specs.declared.reason.ModuleReason.{ModuleReason}
use Rattle.profile.specs.declared.reason.ModuleReason.TheVariants as reason
use Rattle.swi_dispatch_answers.specs.State.{State, register_of}
use Rattle.swi_dispatch_answers.specs.declared.refusal.Refusal.{Refusal}
use Rattle.swi_dispatch_answers.specs.Refusals.{system_error}
use Rattle.instances.specs.module_state.ModuleState.{ModuleState}
use Rattle.swi_dispatch_plans.specs.modules.Area.{area_described, block_claimed, block_extended, rma_block_after_free}
use Rattle.swi_dispatch_plans.specs.modules.Naming.{instance_found, instance_preferred, instance_renamed, instance_shown}

abbrev pub module_called_for : State → ModuleState → Option ModuleReason → Result (State × ModuleState)
    Refusal
module_called_for cpu w (Some reason.DescribeArea) = area_described cpu w
module_called_for cpu w (Some reason.Claim) = block_claimed cpu w
module_called_for cpu w (Some reason.Free) = rma_block_after_free cpu w
module_called_for cpu w (Some reason.Info) = instance_shown cpu w
module_called_for cpu w (Some reason.Extend) = block_extended cpu w
module_called_for cpu w (Some reason.Rename) = instance_renamed cpu w
module_called_for cpu w (Some reason.Prefer) = instance_preferred cpu w
module_called_for cpu w (Some reason.Lookup) = instance_found cpu w
module_called_for cpu w other = system_error ModuleBadReason

unfoldable pub result_of_module_call : State → ModuleState → Result (State × ModuleState) Refusal
result_of_module_call cpu w = module_called_for cpu w (module_reason (register_of cpu 0))
