pub mod Serve
pub mod Respond
