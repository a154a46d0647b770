pub mod Numeral
pub mod Laws
