pub mod BerReading
pub mod Inner
pub mod Laws
