pub mod FormLaws
pub mod ItemLaws
pub mod LineLaws
pub mod ObjectLaws
pub mod WordLaws
