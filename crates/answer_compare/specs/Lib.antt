pub mod Compare
pub mod Laws
