pub mod Item
pub mod Laws
