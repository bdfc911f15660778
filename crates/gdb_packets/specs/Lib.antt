-- GDB's remote protocol as bytes. Begin with Requests, which says what each packet asks for.
pub mod Ahead
pub mod Digits
pub mod Fixed
pub mod Frames
pub mod Going
pub mod Laws
pub mod Numbers
pub mod Reading
pub mod Requests
pub mod request_laws
