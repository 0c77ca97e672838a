pub mod Looks
pub mod Opening
pub mod Tagging
pub mod UniversalTags
