pub mod Examples
pub mod LaterExamples
pub mod Laws
pub mod Secrecy
