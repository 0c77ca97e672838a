pub mod OwnNames
pub mod Tables
