pub mod RequestLaws
pub mod SignedLaws
pub mod WriterLaws
