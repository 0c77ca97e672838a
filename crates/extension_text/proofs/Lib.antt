pub mod ItemLaws
pub mod NamesLaws
pub mod UnreadLaws
