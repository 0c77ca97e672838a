pub mod Formats
pub mod Octets
