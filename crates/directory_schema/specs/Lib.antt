pub mod Lines
pub mod Zeros
pub mod Types
pub mod Laws
