pub mod Put
pub mod Filled
pub mod Entries
