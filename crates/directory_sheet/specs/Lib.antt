pub mod Judged
pub mod Rows
pub mod Entries
pub mod Laws
