pub mod WorldTables
pub mod EditsApplied
pub mod Fits
pub mod Moves
pub mod Holding
