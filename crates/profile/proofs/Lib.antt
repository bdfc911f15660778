pub mod FirstLemmas
pub mod OutputLemmas
pub mod KnownLemmas
pub mod TextLinesLemmas
pub mod ImagesLemmas
