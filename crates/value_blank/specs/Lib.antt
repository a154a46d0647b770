pub mod Blank
pub mod Laws
