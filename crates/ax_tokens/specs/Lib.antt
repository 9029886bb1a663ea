pub mod Plain
pub mod Outside
pub mod Tokens
pub mod Meaning
pub mod TokenText
pub mod TokenCode
pub mod Nodes
pub mod Falls
