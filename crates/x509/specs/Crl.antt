pub mod Lists
pub mod Reasons
