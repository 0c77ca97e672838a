pub mod Encoded
pub mod NamedBits
pub mod Read
pub mod ReadValues
pub mod SetsOf
pub mod Times
pub mod Values
