pub mod Resolved
pub mod Resolution
pub mod Laws
