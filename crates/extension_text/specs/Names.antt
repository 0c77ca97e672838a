pub mod Escapes
pub mod Identifiers
pub mod Names
pub mod Pieces
pub mod Values
