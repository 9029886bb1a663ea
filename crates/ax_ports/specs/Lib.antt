pub mod Ports
pub mod Tables
pub mod Calls
pub mod Memory
