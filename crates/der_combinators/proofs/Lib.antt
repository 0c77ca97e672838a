pub mod ItemLaws
pub mod Slices
