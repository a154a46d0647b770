pub mod Digest
pub mod Laws
