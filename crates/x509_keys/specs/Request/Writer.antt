pub mod Formats
pub mod Octets
pub mod Strict
