-- What private functions promise, and what the crates above build on: no contract of a call that users import cites
-- these.
pub mod Framed
pub mod Identifier
pub mod Integers
pub mod Opened
pub mod Spans
pub mod Taken
pub mod TimeParts
