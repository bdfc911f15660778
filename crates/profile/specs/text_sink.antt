-- What a sink over memory keeps.
pub mod Safe
pub mod TextSink
