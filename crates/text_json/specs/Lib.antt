pub mod Fields
pub mod Json
pub mod Numbers
pub mod PathTexts
pub mod Sent
pub mod Shown
pub mod Timestamps
