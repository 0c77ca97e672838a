pub mod Messages
pub mod Operations
pub mod Writer
