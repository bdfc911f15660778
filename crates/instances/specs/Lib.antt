-- What the calls on modules and instances answer and leave. Begin with Reading and Adding.
pub use Rattle.instances_table.specs.Changes
pub use Rattle.instances_table.specs.Lookup
pub use Rattle.instances_table.specs.Modules
pub use Rattle.instances_table.specs.declared.parts.Image
pub use Rattle.instances_table.specs.declared.parts.InstanceInfo as InstancesTableInstanceInfo
pub use Rattle.instances_table.specs.declared.parts.ModuleInfo as InstancesTableModuleInfo
pub use Rattle.instances_table.specs.declared.parts.Place as InstancesTablePlace
pub use Rattle.rma.specs.Area
pub use Rattle.rma.specs.Areas
pub use Rattle.rma.specs.Calls
pub use Rattle.rma.specs.Changed
pub use Rattle.rma.specs.Changing
pub use Rattle.rma.specs.Copies
pub use Rattle.rma.specs.Created
pub use Rattle.rma.specs.Creating
pub use Rattle.rma.specs.DynamicAreasKept as Kept
pub use Rattle.rma.specs.Extent
pub use Rattle.rma.specs.Ground
pub use Rattle.rma.specs.NewImages
pub use Rattle.rma.specs.PageCounts
pub use Rattle.rma.specs.Remapped
pub use Rattle.rma.specs.Rooms
pub use Rattle.rma.specs.Start as DynamicAreasStart
pub use Rattle.rma.specs.Wanted
pub use Rattle.rma.specs.flex_frame
pub use Rattle.rma.specs.flex_frame.Keeping
pub mod Adding
pub mod Given
pub mod Memory
pub mod Naming
pub mod Plans
pub mod Reading
pub mod Turns
pub mod module_state
pub mod actions
pub mod tidying
