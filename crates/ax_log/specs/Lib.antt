pub mod Log
pub mod Order
pub mod Index
pub mod Puts
pub mod Answers
