-- What a reader answers.
pub mod ItemAnswers
