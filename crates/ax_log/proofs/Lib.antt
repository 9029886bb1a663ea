pub mod CellPutLaws
pub mod Order
pub mod Index
pub mod Heads
pub mod Events
pub mod Append
pub mod CellsMade
