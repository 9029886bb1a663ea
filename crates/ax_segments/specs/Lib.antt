pub mod Segments
pub mod Orders
pub mod Sequences
