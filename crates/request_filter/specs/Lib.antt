pub mod Node
pub mod Filters
pub mod Laws
