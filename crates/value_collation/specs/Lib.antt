pub mod Fold
pub mod Compare
pub mod Laws
