pub mod Entries
pub mod Examined
pub mod ListRules
pub mod Marks
pub mod WholeLists
