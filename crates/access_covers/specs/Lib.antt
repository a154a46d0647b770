pub mod Row
pub mod Enter
pub mod Noted
pub mod Sources
pub mod Laws
