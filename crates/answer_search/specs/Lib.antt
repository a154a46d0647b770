pub mod Query
pub mod Hits
pub mod Laws
