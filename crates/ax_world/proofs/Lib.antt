pub mod OneProcessorChanges
pub mod Wholes
pub mod Rooms
pub mod Starts
pub mod StepMoves
pub mod ProcessorStates
pub mod Projections
pub mod HeldFences
