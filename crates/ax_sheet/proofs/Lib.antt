pub mod Fits
pub mod Sheets
pub mod OnLiterals
pub mod Ascii
pub mod CardsText
pub mod Floats
pub mod Proper
pub mod Same
pub mod SameParts
pub mod Objects
pub mod Again
pub mod AgainSheet
pub mod Rising
mod OtherSheets
