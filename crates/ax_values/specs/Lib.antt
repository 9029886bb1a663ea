pub mod Grammar
pub mod Words
pub mod Readers
pub mod Seen
pub mod EventId
pub mod Orders
