-- What GDB's requests do, and what they are answered. Begin with Requests.
pub mod Back
pub mod Changes
pub mod Laws
pub mod Looks
pub mod Programs
pub mod Requests
pub mod Runs
pub mod Session
pub mod State
pub mod Steps
pub mod Stores
