pub mod FromShown
pub mod Demand3
