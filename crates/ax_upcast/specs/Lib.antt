pub mod Upcast
pub mod Forms
