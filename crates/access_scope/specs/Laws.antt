pub mod Scopes
pub mod Resolved
