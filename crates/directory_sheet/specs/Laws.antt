pub mod Rows
pub mod Entries
pub mod Entry
pub mod Refusals
