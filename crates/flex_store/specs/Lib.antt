-- What the flex calls do to a list of blocks, and how memory spells it. Begin with Blocks and
-- Calls.
pub use Rattle.os_heap.specs.Payloads
pub use Rattle.os_heap.specs.Store
pub use Rattle.os_heap.specs.lists
pub use Rattle.profile.specs.Outcome
pub use Rattle.profile.specs.Sizes
pub use Rattle.profile.specs.ErrorNumber
pub mod Blocks
pub mod Calls
pub mod Changes
pub mod Kept
pub mod Laws
pub mod Listed
pub mod Marks
pub mod Memory
pub mod Places
pub mod Relaid
pub mod Runs
pub mod Shifts
pub mod Splices
pub mod Staying
pub mod Tested
pub mod State
