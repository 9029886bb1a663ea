pub mod Starts
pub mod RowPlaces
pub mod Answered
pub mod RowLists
pub mod Halving
pub mod HeldRows
