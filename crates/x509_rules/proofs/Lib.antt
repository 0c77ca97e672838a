pub mod IssuerLaws
pub mod MarkLaws
