pub mod Lists
pub mod Requests
pub mod Texts
pub mod Writer
