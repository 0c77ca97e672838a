pub mod Lines
pub mod Reading
pub mod Taken
pub mod Taking
