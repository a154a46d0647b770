pub mod Outcomes
pub mod Grammars
pub mod Lines
pub mod Laws
