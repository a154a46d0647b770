pub mod Operations
pub mod Posed
