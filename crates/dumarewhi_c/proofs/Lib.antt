pub mod ArcsBack
pub mod Dotted
pub mod Points
