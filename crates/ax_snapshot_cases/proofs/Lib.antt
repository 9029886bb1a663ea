pub mod Counting
pub mod Growth
