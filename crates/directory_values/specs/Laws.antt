pub mod Rows
pub mod ValueLine
pub mod Values
