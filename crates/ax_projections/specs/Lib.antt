pub mod Table
pub mod Items
pub mod Rebuild
