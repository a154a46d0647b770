pub mod Serve
pub mod Judges
pub mod Laws
