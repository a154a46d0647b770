pub mod Progress
pub mod Pieces
pub mod Laws
