pub mod Form
pub mod Segment
pub mod Arguments
pub mod Fields
pub mod Parts
pub mod Orders
pub mod Replies
pub mod Entries
