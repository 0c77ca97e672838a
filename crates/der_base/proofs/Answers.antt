-- What a reader answers.
pub mod Answering
pub mod Exactness
