pub mod Matchable
pub mod Candidate
pub mod Mask
pub mod Laws
