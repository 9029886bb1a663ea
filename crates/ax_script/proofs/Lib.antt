mod Queues
mod Declared
mod Standing
mod Pieces
mod WorkedScripts
pub mod BuiltSteps
