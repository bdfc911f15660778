-- Flex blocks that differ after a store call. Begin with Changes.
pub mod Changes
pub mod Laws
