pub mod Basis
pub mod Outcomes
