-- What private functions promise: no contract of a public call cites these.
pub mod Sorting
