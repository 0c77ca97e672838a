-- Object identifiers (X.690 8.19 and 8.20).
pub mod Arcs
pub mod ArcsBack
