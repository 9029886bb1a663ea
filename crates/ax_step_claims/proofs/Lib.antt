pub mod ClaimKept
pub mod HeldKept
pub mod HalvesKept
pub mod StepKept
mod Moves
mod Answered
mod HeldSteps
mod HeldMoves
