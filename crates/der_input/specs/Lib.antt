pub mod Blocks
pub mod Escapes
pub mod Faults
pub mod Forms
pub mod Marks
pub mod Numbers
pub mod Plain
pub mod Slices
