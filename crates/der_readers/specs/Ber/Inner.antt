-- What private functions promise: no contract of a call that users import cites these.
pub mod BerLeaves
pub mod ElementParts
