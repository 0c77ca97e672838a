pub mod Fields
pub mod Keys
pub mod Read
pub mod Requests
pub mod Strict
pub mod StrictlyRead
