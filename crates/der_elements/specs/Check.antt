pub mod Elements
pub mod Laws
pub mod Listing
pub mod Overlay
pub mod Readers
pub mod Tapes
