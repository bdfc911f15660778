-- The slide of a heap's movable blocks. Begin with Slide.
pub mod Laws
pub mod Slide
pub mod Steps
