pub mod ContentLaws
pub mod ContentsRead
pub mod TypedLaws
