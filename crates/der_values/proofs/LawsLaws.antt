pub mod Answers
pub mod Containers
pub mod Headers
pub mod Leaves
pub mod Octets
pub mod PrettyLaws
pub mod Spellings
pub mod StatedLaws
mod WorkedRows
