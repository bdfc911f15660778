pub use Rattle.dynamic_areas.proofs.AddressMapStores
pub use Rattle.dynamic_areas.proofs.Apart
pub use Rattle.dynamic_areas.proofs.Equations
pub use Rattle.dynamic_areas.proofs.Forgetting
pub use Rattle.dynamic_areas.proofs.Found
pub use Rattle.dynamic_areas.proofs.Frame
pub use Rattle.dynamic_areas.proofs.GroundLemmas
pub use Rattle.dynamic_areas.proofs.HeapCalls
pub use Rattle.dynamic_areas.proofs.ImageBlocks
pub use Rattle.dynamic_areas.proofs.InRange
pub use Rattle.dynamic_areas.proofs.LiveBlocks
pub use Rattle.dynamic_areas.proofs.ModuleArea
pub use Rattle.dynamic_areas.proofs.Moving
pub use Rattle.dynamic_areas.proofs.Payloads
pub use Rattle.dynamic_areas.proofs.RangeTests
pub use Rattle.dynamic_areas.proofs.Reading
pub use Rattle.dynamic_areas.proofs.RoomLemmas
pub use Rattle.dynamic_areas.proofs.Spans
pub use Rattle.dynamic_areas.proofs.Stores
pub use Rattle.dynamic_areas.proofs.SystemPages
pub use Rattle.dynamic_areas.proofs.SystemWrites
pub use Rattle.dynamic_areas.proofs.Viewing
pub use Rattle.dynamic_areas.proofs.Words
pub use Rattle.dynamic_areas.proofs.Writing
mod CopyLemmas
mod AreaStores
mod ExtendLemmas
mod FlexLemmas
mod GrowthLemmas
mod KeptLemmas
pub mod ImageLemmas
pub mod InPlaceLemmas
pub mod NewImageLemmas
mod ResizeLemmas
mod Undoing
pub mod HeapSlideLemmas
pub mod FlexFrameLemmas
