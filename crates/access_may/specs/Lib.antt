pub mod Decided
pub mod Single
pub mod Laws
