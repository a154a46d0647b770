pub mod Row
pub mod Enter
pub mod Inherit
pub mod Covers
