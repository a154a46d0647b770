pub mod Lines
pub mod Types
pub mod Zeros
