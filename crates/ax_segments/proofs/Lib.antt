pub mod Powers
pub mod Halves
pub mod HashLaws
