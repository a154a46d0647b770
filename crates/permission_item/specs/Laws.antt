pub mod Bounds
pub mod Item
