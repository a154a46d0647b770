pub mod Weight
pub mod Laws
