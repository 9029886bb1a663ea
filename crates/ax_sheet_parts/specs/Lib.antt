pub mod Commands
pub mod Sheet
pub mod Declarations
