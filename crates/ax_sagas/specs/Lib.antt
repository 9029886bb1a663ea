pub mod Links
pub mod Sagas
