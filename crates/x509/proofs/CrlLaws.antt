pub mod CrlLaws
pub mod ReasonLaws
pub mod SignedLaws
