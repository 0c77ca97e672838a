-- What private functions promise: no public contract cites these.
pub mod Framing
