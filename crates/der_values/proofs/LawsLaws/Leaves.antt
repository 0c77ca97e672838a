-- Content octets of one type, but for lists.
pub mod AlwaysDer
pub mod FirstLeaves
pub mod NeverBoth
pub mod NormalLeaves
pub mod NumberLaws
pub mod NumberReaders
pub mod OneContent
