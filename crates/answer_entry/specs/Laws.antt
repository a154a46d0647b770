pub mod Opening
pub mod Returned
pub mod Passing
pub mod Whole
pub mod Rows
