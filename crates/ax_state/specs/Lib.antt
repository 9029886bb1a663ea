pub mod Every
pub mod Setting
pub mod State
pub mod Positions
pub mod Portions
pub mod WellFormed
pub mod Batches
pub mod Answer
