pub mod Bounds
pub mod Noted
pub mod Operations
pub mod Whole
