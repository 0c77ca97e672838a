pub mod AmongLaws
pub mod BelowLaws
pub mod FirstLaws
pub mod MailboxLaws
pub mod MarkLaws
pub mod PositionLaws
pub mod SaidLaws
pub mod UriLaws
