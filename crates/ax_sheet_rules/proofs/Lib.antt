pub mod Counts
pub mod Rooms
pub mod Apart
pub mod Places
pub mod Loops
