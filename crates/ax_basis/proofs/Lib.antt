pub mod Fitting
pub mod Placed
pub mod OneItem
pub mod LoneItem
