pub mod Hits
pub mod Posed
pub mod Laws
