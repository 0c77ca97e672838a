pub mod Counting
pub mod HeaderFacts
pub mod HexTexts
pub mod ItemLists
pub mod Joins
pub mod ListCopies
pub mod Sending
pub mod TextViews
pub mod Trees
pub mod TypedLaws
mod WorkedRows
