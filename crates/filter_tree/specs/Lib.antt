pub mod Truths
pub mod Tree
pub mod Laws
