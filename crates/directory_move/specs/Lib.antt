pub mod Rewritten
pub mod Movable
pub mod Laws
