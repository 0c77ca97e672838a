pub mod Items
pub mod Leaves
pub mod ReadingLaws
pub mod SpanItems
pub mod WantedTagNumbers
