pub mod Rows
pub mod Items
pub mod Laws
