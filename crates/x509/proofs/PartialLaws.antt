pub mod FieldLaws
pub mod OpeningLaws
pub mod PartialLaws
pub mod WholeLaws
