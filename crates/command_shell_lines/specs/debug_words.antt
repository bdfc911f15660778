-- What words of a debugging line stand for, and what each line needs. Begin with Forms.
pub use Rattle.assembler_text.specs.naming.SwiNames
pub mod ErrorNumbers
pub mod Forms
pub mod NamedBytes
pub mod PastTexts
pub mod Spelling
pub mod StubLines
pub mod Texts
pub mod Values
