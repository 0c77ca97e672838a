pub mod ArcNumbers
pub mod Contents
pub mod Decimal
pub mod Identifiers
pub mod Kinds
pub mod Octets
pub mod Values
