pub mod Cursors
pub mod Elements
pub mod Formats
pub mod Laws
pub mod Named
pub mod Runs
