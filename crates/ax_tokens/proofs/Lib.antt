pub mod Sets
pub mod Gaps
pub mod Bits
pub mod Changes
pub mod Texts
pub mod WordTexts
