pub mod Digits
pub mod Rising
pub mod Options
pub mod Numbers
pub mod Cuts
pub mod Values
pub mod Items
pub mod Lists
pub mod Lines
pub mod Payloads
pub mod Pieces
pub mod Seens
pub mod Gluing
mod WordTexts
