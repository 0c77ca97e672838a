pub mod Lists
pub mod ReadValues
pub mod VectorLaws
pub mod OneTrees
pub mod Middles
pub mod ElementViews
pub mod DerTrees
pub mod SameContents
