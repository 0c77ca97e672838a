pub mod FilterKinds
pub mod Filters
pub mod Messages
pub mod Operations
pub mod Words
pub mod Writer
