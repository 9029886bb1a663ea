pub mod Segments
pub mod Sorting
pub mod OrderLaws
pub mod LineLaws
mod OrderTexts
mod Stops
