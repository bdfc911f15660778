-- What all store calls share. Begin with Strings and Errors.
pub use Rattle.arm_core.specs.State
pub use Rattle.arm_core.specs.declared.psr.Mode
pub use Rattle.instances_table.specs.declared.parts.Handler
pub use Rattle.instances_table.specs.declared.plans.action.PlanAction
pub use Rattle.instances_table.specs.declared.plans.code.Code
pub use Rattle.instances_table.specs.declared.plans.code.CodeKind
pub use Rattle.instances_table.specs.declared.plans.code.Ended
pub use Rattle.instances_table.specs.declared.plans.code.Outcome
pub use Rattle.instances_table.specs.declared.plans.given.Given
pub use Rattle.instances_table.specs.plans.Carrying
pub use Rattle.instances_table.specs.plans.Code as InstancesTableCode
pub use Rattle.instances_table.specs.plans.Doable
pub use Rattle.instances_table.specs.plans.Plans
pub mod Errors
pub mod Refusals
pub mod Returns
pub mod Strings
pub mod Words
pub mod frames
