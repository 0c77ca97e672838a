pub mod ListLaws
pub mod NamesLaws
pub mod ObjectLaws
pub mod TicketLaws
pub mod UseLaws
