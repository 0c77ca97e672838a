pub mod FieldsLaws
pub mod Negatives
pub mod PathsShown
pub mod ShownLaws
