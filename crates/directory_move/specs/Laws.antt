pub mod Rewritten
pub mod Move
