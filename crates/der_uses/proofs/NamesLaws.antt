pub mod Attributes
pub mod Contents
pub mod Elements
pub mod Leaves
pub mod Lists
pub mod WorkedRows
