pub mod Run
pub mod Machines
pub mod Promises
