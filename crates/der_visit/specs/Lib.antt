pub mod Changing
pub mod Visiting
