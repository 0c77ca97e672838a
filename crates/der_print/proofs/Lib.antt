pub mod AllLaws
pub mod CutLaws
pub mod FitLaws
pub mod FrontLaws
pub mod LineLaws
pub mod NumberLaws
pub mod PartLaws
pub mod PieceLaws
pub mod QuoteLaws
pub mod RowLaws
pub mod SpacedLaws
pub mod ValueLaws
mod WorkedRows
