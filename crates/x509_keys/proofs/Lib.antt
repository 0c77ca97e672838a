pub mod KeyLaws
pub mod NameLaws
pub mod RequestLaws
