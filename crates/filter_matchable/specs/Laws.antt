pub mod Bits
pub mod Matchable
pub mod Candidate
pub mod Mask
