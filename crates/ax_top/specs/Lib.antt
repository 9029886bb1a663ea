pub mod Run
pub mod Answered
pub mod Headline
