pub mod Views
pub mod Values
pub mod Vectors
pub mod Laws
