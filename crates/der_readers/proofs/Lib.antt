pub mod BerLaws
pub mod DerLaws
pub mod TypesLaws
