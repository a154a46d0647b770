pub mod Matched
pub mod Way
pub mod Replace
pub mod Resolved
