pub mod Names
pub mod Find
pub mod Climb
