-- The instruction table of the ARM2, both ways. Begin with Table; Diagrams and Laws say it
-- otherwise.
pub use Rattle.profile.specs.Digits
pub use Rattle.profile.specs.ErrorNames
pub use Rattle.profile.specs.ErrorNumber
pub use Rattle.profile.specs.Fault
pub use Rattle.profile.specs.MemoryMap
pub use Rattle.profile.specs.Outcome
pub use Rattle.profile.specs.Output
pub use Rattle.profile.specs.Pulls
pub use Rattle.profile.specs.Sums
pub use Rattle.profile.specs.SwiNames
pub use Rattle.profile.specs.Word
pub use Rattle.profile.specs.declared.stop.Stop
pub use Rattle.profile.specs.declared.swi.SwiName
pub use Rattle.profile.specs.declared.word.Sum
pub use Rattle.profile.specs.images.Entries
pub use Rattle.profile.specs.text_lines.WholeLines
pub mod Decoded
pub mod Diagrams
pub mod Fields
pub mod Laws
pub mod Names
pub mod Places
pub mod Ranges
pub mod Refusals
pub mod Shifted
pub mod Table
