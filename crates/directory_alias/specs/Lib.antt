pub mod Target
pub mod Laws
