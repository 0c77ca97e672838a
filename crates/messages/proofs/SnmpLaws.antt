pub mod FieldLaws
pub mod MessageLaws
pub mod SyntaxLaws
pub mod WriterLaws
