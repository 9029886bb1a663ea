pub mod Logging
pub mod SendParts
