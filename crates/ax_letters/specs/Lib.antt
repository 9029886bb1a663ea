pub mod Letters
pub mod Room
pub mod Answers
