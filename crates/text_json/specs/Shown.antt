pub mod Forms
pub mod Items
pub mod Lines
pub mod Objects
pub mod Words
