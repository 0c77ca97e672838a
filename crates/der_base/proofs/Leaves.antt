-- Content octets of one type, but for lists.
pub mod Always
pub mod Decided
pub mod Refusals
pub mod Texts
