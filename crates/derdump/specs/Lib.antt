pub mod Elements
pub mod Ends
pub mod Outputs
pub mod Refused
pub mod Sinks
pub mod Sources
pub mod Words
