pub mod BytesMoved
pub mod RowOrder
pub mod Pieces
