pub mod ValueLine
pub mod Rows
pub mod Values
pub mod Laws
