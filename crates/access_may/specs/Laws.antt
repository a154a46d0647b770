pub mod Decided
pub mod Schema
pub mod Single
pub mod Granted
