pub mod Advances
pub mod Laws
