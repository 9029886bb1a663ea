pub mod Rising
pub mod Counts
pub mod Exact
