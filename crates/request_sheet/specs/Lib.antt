pub mod Noted
pub mod Whole
pub mod Laws
