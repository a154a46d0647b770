pub mod Fold
pub mod Compare
