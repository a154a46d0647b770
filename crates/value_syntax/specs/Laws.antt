pub mod Text
pub mod Digest
pub mod Piece
