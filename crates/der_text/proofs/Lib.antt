pub mod Delimiters
pub mod Firsts
pub mod Identifiers
pub mod Looks
pub mod Numbers
pub mod Printed
pub mod Sequences
pub mod Skips
