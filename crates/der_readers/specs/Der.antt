pub mod DerReading
pub mod Inner
pub mod Laws
