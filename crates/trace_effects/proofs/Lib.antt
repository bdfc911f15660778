pub mod ChangesLemmas
pub mod EffectLemmas
pub mod ShownWordsLemmas
pub mod ShownRegistersLemmas
pub mod RecordTextLemmas
pub mod WordTextLemmas
pub mod DigitLemmas
