pub mod Working
pub mod Sharing
pub mod Installing
pub mod Reach
