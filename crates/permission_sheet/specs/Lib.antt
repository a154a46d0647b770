pub mod Noted
pub mod Rows
pub mod Laws
