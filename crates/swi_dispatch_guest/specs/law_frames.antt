-- Which frames of module code a step leaves open.
pub mod Frames
