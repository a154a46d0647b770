pub mod Blank
pub mod Text
