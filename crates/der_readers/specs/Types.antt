pub mod Inner
pub mod TypedReading
