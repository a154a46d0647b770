pub mod Emit
pub mod Room
pub mod Laws
