-- What a guest sees of flex blocks, without addresses. Begin with Seen and Numbered, then Laws.
pub mod Laws
pub mod Numbered
pub mod Padding
pub mod Seen
